-- `*` and `duplicate$`
use Rattle.std.proofs.Common.{ℕ, ◌≡◌, ◌≤◌, ◌<◌, ◌+◌, ◌-◌, List, ◌∷◌, ◌++◌, length, take, drop, set, get_or, Some, None, false, true, cond, sym, ap, ◌∙◌, arith}
use Rattle.std.proofs.lemmas.Bool.Decides.{nat_tests}
use Rattle.std.proofs.lemmas.List.{length-drop}
use Rattle.btx_stack.specs.declared.slot.SlotKind.TheVariants as kind
use Rattle.btx_stack.specs.declared.slot.Slot.{Slot}
use Rattle.btx_stack.specs.refinement.Content.{Content}
use Rattle.btx_stack.specs.refinement.Content as content
use Rattle.btx_stack.specs.refinement.Slots.{content_of, content_as, contents_of, Stand, is_large_kind}
use Rattle.btx_stack.specs.refinement.Steps.{top_joined, text_if_short, with_pushed, duplicated}
use Rattle.btx_stack.proofs.Opens.{large_as, from_here, opens_two, two_fit, in_parts}
use Rattle.btx_stack.proofs.Pushes.{put_there, count_is, pushed_with_room}

pub short_text : (text : List ℕ) (xs : List Content) → length text ≤ 1024 → text_if_short text xs ≡ Some (content.Text text ∷ xs)
short_text text xs h = grind (arith, nat_tests)

as_made : (v : Slot) (made : List ℕ) → v.kind ≡ kind.Made → content_of v made ≡ content.Text made
as_made v made e = ap (λ k. content_as k v made) e

-- two strings that were computed are one where they lie
pub join_made : (slots : List Slot) (top : ℕ) (a b : Slot) (pool : List ℕ) (old : List Content) → contents_of (drop top slots) pool ≡ old
    → Stand (drop top slots) (length pool) → top + 1 < length slots → a ≡ get_or slots top a → b ≡ get_or slots (top + 1) b → a.kind ≡ kind.Made
    → b.kind ≡ kind.Made → length pool - b.start ≤ 1024 →
    top_joined old ≡ Some (contents_of (drop (top + 1) slots) pool)
join_made slots top a b pool old o s l e f ka kb h =
    let fit = two_fit slots top a b (length pool) s l e f in
    let low : b.start ≤ a.start = fit.0.below.start in
    let high : a.start ≤ length pool = fit.0.top.start in
    let rest = contents_of (drop (top + 2) slots) (take b.start pool) in
    let y = drop a.start pool in
    let x = drop b.start (take a.start pool) in
    let whole : drop b.start pool ≡ x ++ y = in_parts pool b.start a.start low high in
    let new : contents_of (drop (top + 1) slots) pool ≡ content.Text (drop b.start pool) ∷ rest =
    ap (λ vs. contents_of vs pool) (from_here slots (top + 1) b l f)
    ∙ (ap (λ z. z ∷ contents_of (drop (top + 1 + 1) slots) (take b.start pool)) (as_made b (drop b.start pool) kb)
    ∙ ap (λ n. content.Text (drop b.start pool) ∷ contents_of (drop n slots) (take b.start pool)) (omega arith)) in
    let shown : old ≡ content.Text y ∷ content.Text x ∷ rest =
    opens_two slots top a b pool old o l e f low
    ∙ (ap (λ z. z ∷ content_of b x ∷ rest) (as_made a y ka) ∙ ap (λ z. content.Text y ∷ z ∷ rest) (as_made b x kb)) in
    ap top_joined shown ∙ (short_text (x ++ y) rest (omega (arith, ap length whole, length-drop b.start pool))
    ∙ ap Some (sym (new ∙ ap (λ t. content.Text t ∷ rest) whole)))

-- the top value once more
pub push_again : (slots : List Slot) (top : ℕ) (a b : Slot) (pool : List ℕ) (old : List Content) → contents_of (drop top slots) pool ≡ old → length slots ≡ 1000
    → 0 < top → top < 1000 → a ≡ get_or slots top a → is_large_kind a.kind ≡ false → b.start ≡ length pool
    → ((made : List ℕ) → content_of b made ≡ content_of a made) →
    duplicated old ≡ Some (contents_of (drop (top - 1) (set slots (top - 1) b)) (pool ++ drop a.start pool))
push_again slots top a b pool old o l p t e q g k =
    let shown : old ≡ content_of a (drop a.start pool) ∷ contents_of (drop (top + 1) slots) (take a.start pool) = sym o
    ∙ ap (λ vs. contents_of vs pool) (from_here slots top a (omega arith) e) in
    ap duplicated shown ∙ (ap (λ z. cond z None
    (with_pushed (content_of a (drop a.start pool)) (content_of a (drop a.start pool) ∷ contents_of (drop (top + 1) slots) (take a.start pool))))
    (large_as a.kind a (drop a.start pool) ∙ q) ∙ ap (λ xs. with_pushed (content_of a (drop a.start pool)) xs) (sym shown)
    ∙ (pushed_with_room (content_of a (drop a.start pool)) old (omega (arith, count_is slots top pool old o l))
    ∙ ap Some (sym (put_there slots top b (content_of a (drop a.start pool)) pool (drop a.start pool) old o l p (omega arith) g (k (drop a.start pool))))))

-- a long string on top
pub large_again : (slots : List Slot) (top : ℕ) (a : Slot) (pool : List ℕ) (old : List Content) → contents_of (drop top slots) pool ≡ old → top < length slots
    → a ≡ get_or slots top a → is_large_kind a.kind ≡ true → duplicated old ≡ None
large_again slots top a pool old o l e q =
    let shown : old ≡ content_of a (drop a.start pool) ∷ contents_of (drop (top + 1) slots) (take a.start pool) = sym o
    ∙ ap (λ vs. contents_of vs pool) (from_here slots top a l e) in
    ap duplicated shown ∙ ap (λ z. cond z None
    (with_pushed (content_of a (drop a.start pool)) (content_of a (drop a.start pool) ∷ contents_of (drop (top + 1) slots) (take a.start pool))))
    (large_as a.kind a (drop a.start pool) ∙ q)
