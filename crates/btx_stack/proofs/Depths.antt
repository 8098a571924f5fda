-- What stands below the top.
use Rattle.std.proofs.Common.{ℕ, zero, suc, ◌≡◌, ◌≤◌, ◌<◌, ◌+◌, ◌-◌, List, [], ◌∷◌, false, length, take, drop, get_or, Some, None, refl, sym, ap, subst, ◌∙◌}
use Rattle.std.proofs.Common.{arith, true}
use Rattle.std.proofs.lemmas.List.{take_all, take-take, drop_all, drop_more, drop-drop, length-take-le}
use Rattle.btx_code.specs.refinement.Ops.{callee_of, Runs}
use Rattle.btx_stack.specs.declared.slot.SlotKind.{SlotKind}
use Rattle.btx_stack.specs.declared.slot.SlotKind.TheVariants as kind
use Rattle.btx_stack.specs.declared.slot.Slot.{Slot}
use Rattle.btx_stack.specs.refinement.Content.{Content}
use Rattle.btx_stack.specs.refinement.Content as content
use Rattle.btx_stack.specs.refinement.Slots.{HasBytes, content_of, content_as, contents_of, Stand, is_text_kind}
use Rattle.btx_stack.specs.refinement.Steps.{has_text, is_text, large_on, integer_on, has_function, has_missing}
use Rattle.btx_stack.proofs.Opens.{from_here, no_large_kind}
use Rattle.btx_stack.proofs.Pushes.{count_is}

-- how many bytes the pool has up to the slot `d` below the top, that one's bytes among them
abbrev pub end_of : List Slot → ℕ → ℕ → ℕ
end_of slots zero size = size
end_of [] (suc d) size = 0
end_of (v ∷ below) (suc d) size = end_of below d v.start

-- the slot above it begins there
end_is : (slots : List Slot) (top d size : ℕ) (x : Slot) → top + d < length slots → end_of (drop top slots) (suc d) size ≡ (get_or slots (top + d) x).start
end_is slots top zero size x l = ap (λ vs. end_of vs 1 size) (drop_more slots top x (omega (arith, l))) ∙ ap (λ n. (get_or slots n x).start) (omega arith)
end_is slots top (suc d) size x l =
    ap (λ vs. end_of vs (suc (suc d)) size) (drop_more slots top x (omega (arith, l)))
    ∙ (end_is slots (top + 1) d (get_or slots top x).start x (omega (arith, l)) ∙ ap (λ n. (get_or slots n x).start) (omega arith))

-- the slots from a depth on
record Under (slots : List Slot) (d : ℕ) (pool : List ℕ) : Type 0 where
  pub within : end_of slots d (length pool) ≤ length pool
  pub stand : Stand (drop d slots) (end_of slots d (length pool))
  pub shown : drop d (contents_of slots pool) ≡ contents_of (drop d slots) (take (end_of slots d (length pool)) pool)

under : (slots : List Slot) (d : ℕ) (pool : List ℕ) → Stand slots (length pool) → Under slots d pool
under slots zero pool s = record { within = omega arith; stand = s; shown = ap (contents_of slots) (sym (take_all (length pool) pool (omega arith))) }
under [] (suc d) pool s = record { within = omega arith; stand = refl; shown = refl }
under (v ∷ below) (suc d) pool s =
    let n : length (take v.start pool) ≡ v.start = length-take-le v.start pool s.0.start in
    let u = under below d (take v.start pool) (subst (Stand below) (sym n) s.1) in
    let w : end_of below d v.start ≤ v.start = omega (arith, subst (λ k. end_of below d k ≤ k) n u.within) in
    record {
      within = omega (arith, w, s.0.start);
      stand = subst (λ k. Stand (drop d below) (end_of below d k)) n u.stand;
      shown = subst (λ k. drop d (contents_of below (take v.start pool)) ≡ contents_of (drop d below) (take (end_of below d k) (take v.start pool))) n u.shown
          ∙ ap (contents_of (drop d below)) (take-take (end_of below d v.start) v.start pool w);
    }

-- an item and those after it
pub rest_is : {X : Type 0} (xs ys : List X) (x : X) (d : ℕ) → drop d xs ≡ x ∷ ys → drop d xs ≡ x ∷ drop (d + 1) xs
rest_is xs ys x d e = e ∙ ap (λ zs. x ∷ zs) (sym (sym (drop-drop 1 d xs) ∙ ap (drop 1) e))

-- the slot of a depth, where the pool's bytes up to it end at `end`
pub record AtDepth (b : Slot) (pool : List ℕ) (end : ℕ) (old : List Content) (d : ℕ) : Type 0 where
  pub within : end ≤ length pool
  pub low : b.start ≤ end
  pub shown : drop d old ≡ content_of b (drop b.start (take end pool)) ∷ drop (d + 1) old

pub end_above : (slots : List Slot) (top d size : ℕ) (x : Slot) → 0 < d → top + d ≤ length slots → x ≡ get_or slots (top + d - 1) x
    → x.start ≡ end_of (drop top slots) d size
end_above slots top zero size x p l e = absurd (omega (arith, p))
end_above slots top (suc d) size x p l e = ap (λ (v : Slot). v.start) (e ∙ ap (λ n. get_or slots n x) (omega arith))
    ∙ sym (end_is slots top d size x (omega (arith, l)))

pub end_top : (slots : List Slot) (top d size : ℕ) → d ≡ 0 → size ≡ end_of (drop top slots) d size
end_top slots top d size e = sym (ap (λ n. end_of (drop top slots) n size) e)

at_depth : (slots : List Slot) (top : ℕ) (b : Slot) (pool : List ℕ) (end : ℕ) (old : List Content) (d : ℕ) → contents_of (drop top slots) pool ≡ old
    → Stand (drop top slots) (length pool) → top + d < length slots → b ≡ get_or slots (top + d) b → end ≡ end_of (drop top slots) d (length pool)
    → AtDepth b pool end old d
at_depth slots top b pool end old d o s l e f =
    let u = under (drop top slots) d pool s in
    let here : drop d (drop top slots) ≡ b ∷ drop (top + d + 1) slots = drop-drop d top slots ∙ from_here slots (top + d) b l e in
    let stand : Stand (b ∷ drop (top + d + 1) slots) end = subst (λ vs. Stand vs end) here (subst (Stand (drop d (drop top slots))) (sym f) u.stand) in
    let opened : drop d old ≡ content_of b (drop b.start (take end pool)) ∷ contents_of (drop (top + d + 1) slots) (take b.start (take end pool)) =
    sym (ap (drop d) o) ∙ (u.shown ∙ (ap (λ n. contents_of (drop d (drop top slots)) (take n pool)) (sym f)
    ∙ ap (λ vs. contents_of vs (take end pool)) here)) in
    record {
      within = subst (λ n. n ≤ length pool) (sym f) u.within;
      low = stand.0.start;
      shown = rest_is old (contents_of (drop (top + d + 1) slots) (take b.start (take end pool))) (content_of b (drop b.start (take end pool))) d opened;
    }

pub depth_within : (slots : List Slot) (top : ℕ) (pool : List ℕ) (end d : ℕ) → Stand (drop top slots) (length pool)
    → end ≡ end_of (drop top slots) d (length pool) → end ≤ length pool
depth_within slots top pool end d s f = subst (λ n. n ≤ length pool) (sym f) (under (drop top slots) d pool s).within

pub depth_low : (slots : List Slot) (top : ℕ) (b : Slot) (pool : List ℕ) (end : ℕ) (old : List Content) (d : ℕ) → contents_of (drop top slots) pool ≡ old
    → Stand (drop top slots) (length pool) → top + d < length slots → b ≡ get_or slots (top + d) b → end ≡ end_of (drop top slots) d (length pool)
    → b.start ≤ end
depth_low slots top b pool end old d o s l e f = (at_depth slots top b pool end old d o s l e f).low

pub depth_text : (slots : List Slot) (top : ℕ) (b : Slot) (pool text : List ℕ) (end : ℕ) (old : List Content) (d : ℕ) → contents_of (drop top slots) pool ≡ old
    → Stand (drop top slots) (length pool) → top + d < length slots → b ≡ get_or slots (top + d) b → end ≡ end_of (drop top slots) d (length pool) →
    content.Text text ≡ content_of b (drop b.start (take end pool)) → drop d old ≡ content.Text text ∷ drop (d + 1) old
depth_text slots top b pool text end old d o s l e f g = (at_depth slots top b pool end old d o s l e f).shown ∙ ap (λ x. x ∷ drop (d + 1) old) (sym g)

text_as : (k : SlotKind) (v : Slot) (made : List ℕ) → is_text (content_as k v made) ≡ is_text_kind k
text_as kind.Lent v made = refl
text_as k v made = refl

pub depth_kind : (slots : List Slot) (top : ℕ) (b : Slot) (pool : List ℕ) (old : List Content) (d : ℕ) → contents_of (drop top slots) pool ≡ old
    → Stand (drop top slots) (length pool) → top + d < length slots → b ≡ get_or slots (top + d) b → is_text_kind b.kind ≡ has_text (drop d old)
depth_kind slots top b pool old d o s l e =
    let end = end_of (drop top slots) d (length pool) in
    sym (ap has_text (at_depth slots top b pool end old d o s l e refl).shown ∙ text_as b.kind b (drop b.start (take end pool)))

large_kind : (k : SlotKind) (v : Slot) (made : List ℕ) (xs : List Content) → k ≡ kind.Large → large_on (content_as k v made ∷ xs) ≡ Some v.number
large_kind k v made xs e = ap (λ j. large_on (content_as j v made ∷ xs)) e

pub depth_large : (slots : List Slot) (top : ℕ) (b : Slot) (pool : List ℕ) (old : List Content) (d : ℕ) → contents_of (drop top slots) pool ≡ old
    → Stand (drop top slots) (length pool) → top + d < length slots → b ≡ get_or slots (top + d) b → b.kind ≡ kind.Large → Some b.number ≡ large_on (drop d old)
depth_large slots top b pool old d o s l e k =
    let end = end_of (drop top slots) d (length pool) in
    sym (ap large_on (at_depth slots top b pool end old d o s l e refl).shown ∙ large_kind b.kind b _ _ k)

pub depth_no_large : (slots : List Slot) (top : ℕ) (b : Slot) (pool : List ℕ) (old : List Content) (d : ℕ) → contents_of (drop top slots) pool ≡ old
    → Stand (drop top slots) (length pool) → top + d < length slots → b ≡ get_or slots (top + d) b → (b.kind ≡ kind.Large → ⊥) → None ≡ large_on (drop d old)
depth_no_large slots top b pool old d o s l e k =
    let end = end_of (drop top slots) d (length pool) in
    sym (ap large_on (at_depth slots top b pool end old d o s l e refl).shown ∙ no_large_kind b.kind b _ _ k)

-- below the last one
none_there : (slots : List Slot) (top : ℕ) (pool : List ℕ) (old : List Content) (d : ℕ) → contents_of (drop top slots) pool ≡ old → length slots ≡ 1000
    → 1000 - top ≤ d → drop d old ≡ []
none_there slots top pool old d o l h = drop_all d old (omega (arith, h, count_is slots top pool old o l))

pub no_text_there : (slots : List Slot) (top : ℕ) (pool : List ℕ) (old : List Content) (d : ℕ) → contents_of (drop top slots) pool ≡ old → length slots ≡ 1000
    → 1000 - top ≤ d → has_text (drop d old) ≡ false
no_text_there slots top pool old d o l h = ap has_text (none_there slots top pool old d o l h)

pub no_large_there : (slots : List Slot) (top : ℕ) (pool : List ℕ) (old : List Content) (d : ℕ) → contents_of (drop top slots) pool ≡ old → length slots ≡ 1000
    → 1000 - top ≤ d → None ≡ large_on (drop d old)
no_large_there slots top pool old d o l h = sym (ap large_on (none_there slots top pool old d o l h))

-- a function of the contents from a depth on, by the slot at that depth
at_kind : {X : Type 0} (f : List Content → X) (slots : List Slot) (top : ℕ) (b : Slot) (pool : List ℕ) (old : List Content) (d : ℕ)
    → contents_of (drop top slots) pool ≡ old → Stand (drop top slots) (length pool) → top + d < length slots → b ≡ get_or slots (top + d) b
    → f (drop d old) ≡ f (content_as b.kind b (drop b.start (take (end_of (drop top slots) d (length pool)) pool)) ∷ drop (d + 1) old)
at_kind f slots top b pool old d o s l e = ap f (at_depth slots top b pool (end_of (drop top slots) d (length pool)) old d o s l e refl).shown

-- integer_on
integer_kind : (k : SlotKind) (v : Slot) (made : List ℕ) (xs : List Content) → k ≡ kind.Integer → integer_on (content_as k v made ∷ xs) ≡ Some v.integer
integer_kind k v made xs e = ap (λ j. integer_on (content_as j v made ∷ xs)) e

no_integer_kind : (k : SlotKind) (v : Slot) (made : List ℕ) (xs : List Content) → (k ≡ kind.Integer → ⊥) → integer_on (content_as k v made ∷ xs) ≡ None
no_integer_kind kind.Integer v made xs n = absurd (n refl)
no_integer_kind k v made xs n = refl

pub depth_integer : (slots : List Slot) (top : ℕ) (b : Slot) (pool : List ℕ) (old : List Content) (d : ℕ) → contents_of (drop top slots) pool ≡ old
    → Stand (drop top slots) (length pool) → top + d < length slots → b ≡ get_or slots (top + d) b → b.kind ≡ kind.Integer
    → Some b.integer ≡ integer_on (drop d old)
depth_integer slots top b pool old d o s l e k = sym (at_kind integer_on slots top b pool old d o s l e ∙ integer_kind b.kind b _ _ k)

pub depth_no_integer : (slots : List Slot) (top : ℕ) (b : Slot) (pool : List ℕ) (old : List Content) (d : ℕ) → contents_of (drop top slots) pool ≡ old
    → Stand (drop top slots) (length pool) → top + d < length slots → b ≡ get_or slots (top + d) b → (b.kind ≡ kind.Integer → ⊥)
    → None ≡ integer_on (drop d old)
depth_no_integer slots top b pool old d o s l e k = sym (at_kind integer_on slots top b pool old d o s l e ∙ no_integer_kind b.kind b _ _ k)

pub no_integer_there : (slots : List Slot) (top : ℕ) (pool : List ℕ) (old : List Content) (d : ℕ) → contents_of (drop top slots) pool ≡ old
    → length slots ≡ 1000 → 1000 - top ≤ d → None ≡ integer_on (drop d old)
no_integer_there slots top pool old d o l h = sym (ap integer_on (none_there slots top pool old d o l h))

-- has_function
function_kind : (k : SlotKind) (v : Slot) (made : List ℕ) (xs : List Content) → k ≡ kind.Function → has_function (content_as k v made ∷ xs) ≡ true
function_kind k v made xs e = ap (λ j. has_function (content_as j v made ∷ xs)) e

no_function_kind : (k : SlotKind) (v : Slot) (made : List ℕ) (xs : List Content) → (k ≡ kind.Function → ⊥) → has_function (content_as k v made ∷ xs) ≡ false
no_function_kind kind.Function v made xs n = absurd (n refl)
no_function_kind k v made xs n = refl

pub depth_has_function : (slots : List Slot) (top : ℕ) (b : Slot) (pool : List ℕ) (old : List Content) (d : ℕ) → contents_of (drop top slots) pool ≡ old
    → Stand (drop top slots) (length pool) → top + d < length slots → b ≡ get_or slots (top + d) b → b.kind ≡ kind.Function → true ≡ has_function (drop d old)
depth_has_function slots top b pool old d o s l e k = sym (at_kind has_function slots top b pool old d o s l e ∙ function_kind b.kind b _ _ k)

pub depth_no_function : (slots : List Slot) (top : ℕ) (b : Slot) (pool : List ℕ) (old : List Content) (d : ℕ) → contents_of (drop top slots) pool ≡ old
    → Stand (drop top slots) (length pool) → top + d < length slots → b ≡ get_or slots (top + d) b → (b.kind ≡ kind.Function → ⊥)
    → false ≡ has_function (drop d old)
depth_no_function slots top b pool old d o s l e k = sym (at_kind has_function slots top b pool old d o s l e ∙ no_function_kind b.kind b _ _ k)

pub no_function_there : (slots : List Slot) (top : ℕ) (pool : List ℕ) (old : List Content) (d : ℕ) → contents_of (drop top slots) pool ≡ old
    → length slots ≡ 1000 → 1000 - top ≤ d → false ≡ has_function (drop d old)
no_function_there slots top pool old d o l h = sym (ap has_function (none_there slots top pool old d o l h))

-- has_missing
missing_kind : (k : SlotKind) (v : Slot) (made : List ℕ) (xs : List Content) → k ≡ kind.Missing → has_missing (content_as k v made ∷ xs) ≡ true
missing_kind k v made xs e = ap (λ j. has_missing (content_as j v made ∷ xs)) e

no_missing_kind : (k : SlotKind) (v : Slot) (made : List ℕ) (xs : List Content) → (k ≡ kind.Missing → ⊥) → has_missing (content_as k v made ∷ xs) ≡ false
no_missing_kind kind.Missing v made xs n = absurd (n refl)
no_missing_kind k v made xs n = refl

pub depth_missing : (slots : List Slot) (top : ℕ) (b : Slot) (pool : List ℕ) (old : List Content) (d : ℕ) → contents_of (drop top slots) pool ≡ old
    → Stand (drop top slots) (length pool) → top + d < length slots → b ≡ get_or slots (top + d) b → b.kind ≡ kind.Missing → true ≡ has_missing (drop d old)
depth_missing slots top b pool old d o s l e k = sym (at_kind has_missing slots top b pool old d o s l e ∙ missing_kind b.kind b _ _ k)

pub depth_no_missing : (slots : List Slot) (top : ℕ) (b : Slot) (pool : List ℕ) (old : List Content) (d : ℕ) → contents_of (drop top slots) pool ≡ old
    → Stand (drop top slots) (length pool) → top + d < length slots → b ≡ get_or slots (top + d) b → (b.kind ≡ kind.Missing → ⊥)
    → false ≡ has_missing (drop d old)
depth_no_missing slots top b pool old d o s l e k = sym (at_kind has_missing slots top b pool old d o s l e ∙ no_missing_kind b.kind b _ _ k)

pub no_missing_there : (slots : List Slot) (top : ℕ) (pool : List ℕ) (old : List Content) (d : ℕ) → contents_of (drop top slots) pool ≡ old
    → length slots ≡ 1000 → 1000 - top ≤ d → false ≡ has_missing (drop d old)
no_missing_there slots top pool old d o l h = sym (ap has_missing (none_there slots top pool old d o l h))

pub depth_function : (slots : List Slot) (top : ℕ) (b : Slot) (pool : List ℕ) (old : List Content) (d : ℕ) → contents_of (drop top slots) pool ≡ old
    → Stand (drop top slots) (length pool) → top + d < length slots → b ≡ get_or slots (top + d) b → b.kind ≡ kind.Function
    → drop d old ≡ content.Function (callee_of b.op b.number) ∷ drop (d + 1) old
depth_function slots top b pool old d o s l e k =
    let end = end_of (drop top slots) d (length pool) in
    (at_depth slots top b pool end old d o s l e refl).shown ∙ ap (λ j. content_as j b (drop b.start (take end pool)) ∷ drop (d + 1) old) k

-- a function has an op that runs it
pub depth_runs : (slots : List Slot) (top : ℕ) (b : Slot) (pool : List ℕ) (d : ℕ) → Stand (drop top slots) (length pool) → top + d < length slots
    → b ≡ get_or slots (top + d) b → b.kind ≡ kind.Function → Runs b.op
depth_runs slots top b pool d s l e k =
    let end = end_of (drop top slots) d (length pool) in
    let here : drop d (drop top slots) ≡ b ∷ drop (top + d + 1) slots = drop-drop d top slots ∙ from_here slots (top + d) b l e in
    let stand : Stand (b ∷ drop (top + d + 1) slots) end = subst (λ vs. Stand vs end) here (under (drop top slots) d pool s).stand in
    let bytes : HasBytes kind.Function b (end - b.start) = subst (λ j. HasBytes j b (end - b.start)) k stand.0.bytes in
    bytes.1
