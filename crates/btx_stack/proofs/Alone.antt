-- What has no bytes of the pool, and strings that are compared.
use Rattle.std.proofs.Common.{ℕ, ℤ, ◌≡◌, ◌≤◌, ◌<◌, ◌+◌, ◌-◌, List, [], ◌∷◌, ◌++◌, length, take, drop, set, get_or, Option, Some, None, Bool, cond, true, false}
use Rattle.std.proofs.Common.{refl, sym, ap, subst, ◌∙◌, arith}
use Rattle.std.specs.Str.{bytes_eq}
use Rattle.std.specs.Ordering.{int_eq}
use Rattle.std.proofs.lemmas.List.{take_all, drop_all, drop-set, append-nil, length-take-le}
use Rattle.btx_code.specs.refinement.Ops.{callee_of, Runs}
use Rattle.btx_stack.specs.declared.slot.SlotKind.{SlotKind}
use Rattle.btx_stack.specs.declared.slot.SlotKind.TheVariants as kind
use Rattle.btx_stack.specs.declared.slot.Slot.{Slot}
use Rattle.btx_stack.specs.refinement.Content.{Content}
use Rattle.btx_stack.specs.refinement.Content as content
use Rattle.btx_stack.specs.refinement.Slots.{HasBytes, SlotFits, content_of, content_as, contents_of, Stand, is_large_kind, is_text_kind, text_as, slot_text}
use Rattle.btx_stack.specs.refinement.Steps.{compared, put_for_integers, replaced, below_choice, one_if, is_large}
use Rattle.btx_stack.proofs.Opens.{from_here, opens_two, two_fit, large_as}
use Rattle.btx_stack.proofs.Pushes.{put_on}

-- the top slot, which has no bytes
record Alone (slots : List Slot) (top : ℕ) (a : Slot) (pool : List ℕ) : Type 0 where
  shown : contents_of (drop top slots) pool ≡ content_of a [] ∷ contents_of (drop (top + 1) slots) pool
  stand : Stand (drop (top + 1) slots) (length pool)
  start : a.start ≡ length pool

alone : (slots : List Slot) (top : ℕ) (a : Slot) (pool : List ℕ) → Stand (drop top slots) (length pool) → top < length slots → a ≡ get_or slots top a
    → (HasBytes a.kind a (length pool - a.start) → length pool - a.start ≡ 0) → Alone slots top a pool
alone slots top a pool s l e z =
    let t : Stand (a ∷ drop (top + 1) slots) (length pool) = subst (λ vs. Stand vs (length pool)) (from_here slots top a l e) s in
    let at : a.start ≡ length pool = omega (arith, t.0.start, z t.0.bytes) in
    record {
      shown = ap (λ vs. contents_of vs pool) (from_here slots top a l e)
          ∙ (ap (λ n. content_of a (drop n pool) ∷ contents_of (drop (top + 1) slots) (take n pool)) at
          ∙ (ap (λ ys. content_of a ys ∷ contents_of (drop (top + 1) slots) (take (length pool) pool)) (drop_all (length pool) pool (omega arith))
          ∙ ap (λ ys. content_of a [] ∷ contents_of (drop (top + 1) slots) ys) (take_all (length pool) pool (omega arith))));
      stand = subst (λ n. Stand (drop (top + 1) slots) n) at t.1;
      start = at;
    }

no_bytes_function : (a : Slot) (n : ℕ) → a.kind ≡ kind.Function → HasBytes a.kind a n → (n ≡ 0) × Runs a.op
no_bytes_function a n e b = let h : HasBytes kind.Function a n = subst (λ k. HasBytes k a n) e b in h

no_bytes_integer : (a : Slot) (n : ℕ) → a.kind ≡ kind.Integer → HasBytes a.kind a n → n ≡ 0
no_bytes_integer a n e b = let h : HasBytes kind.Integer a n = subst (λ k. HasBytes k a n) e b in h

-- a function on top
alone_function : (slots : List Slot) (top : ℕ) (a : Slot) (pool : List ℕ) → Stand (drop top slots) (length pool) → top < length slots → a ≡ get_or slots top a
    → a.kind ≡ kind.Function → Alone slots top a pool
alone_function slots top a pool s l e k = alone slots top a pool s l e (λ b. (no_bytes_function a (length pool - a.start) k b).0)

pub function_off : (slots : List Slot) (top : ℕ) (a : Slot) (pool : List ℕ) (old : List Content) → contents_of (drop top slots) pool ≡ old
    → Stand (drop top slots) (length pool) → top < length slots → a ≡ get_or slots top a → a.kind ≡ kind.Function →
    old ≡ content.Function (callee_of a.op a.number) ∷ contents_of (drop (top + 1) slots) pool
function_off slots top a pool old o s l e k =
    sym o ∙ ((alone_function slots top a pool s l e k).shown ∙ ap (λ w. content_as w a [] ∷ contents_of (drop (top + 1) slots) pool) k)

pub function_off_stands : (slots : List Slot) (top : ℕ) (a : Slot) (pool : List ℕ) → Stand (drop top slots) (length pool) → top < length slots
    → a ≡ get_or slots top a → a.kind ≡ kind.Function → Stand (drop (top + 1) slots) (length pool)
function_off_stands slots top a pool s l e k = (alone_function slots top a pool s l e k).stand

pub function_off_runs : (slots : List Slot) (top : ℕ) (a : Slot) (pool : List ℕ) → Stand (drop top slots) (length pool) → top < length slots
    → a ≡ get_or slots top a → a.kind ≡ kind.Function → Runs a.op
function_off_runs slots top a pool s l e k =
    let t : Stand (a ∷ drop (top + 1) slots) (length pool) = subst (λ vs. Stand vs (length pool)) (from_here slots top a l e) s in
    (no_bytes_function a (length pool - a.start) k t.0.bytes).1

-- an integer on top
alone_integer : (slots : List Slot) (top : ℕ) (a : Slot) (pool : List ℕ) → Stand (drop top slots) (length pool) → top < length slots → a ≡ get_or slots top a
    → a.kind ≡ kind.Integer → Alone slots top a pool
alone_integer slots top a pool s l e k = alone slots top a pool s l e (λ b. no_bytes_integer a (length pool - a.start) k b)

pub integer_off : (slots : List Slot) (top : ℕ) (a : Slot) (pool : List ℕ) (old : List Content) → contents_of (drop top slots) pool ≡ old
    → Stand (drop top slots) (length pool) → top < length slots → a ≡ get_or slots top a → a.kind ≡ kind.Integer →
    old ≡ content.Integer a.integer ∷ contents_of (drop (top + 1) slots) pool
integer_off slots top a pool old o s l e k =
    sym o ∙ ((alone_integer slots top a pool s l e k).shown ∙ ap (λ w. content_as w a [] ∷ contents_of (drop (top + 1) slots) pool) k)

pub integer_off_stands : (slots : List Slot) (top : ℕ) (a : Slot) (pool : List ℕ) → Stand (drop top slots) (length pool) → top < length slots
    → a ≡ get_or slots top a → a.kind ≡ kind.Integer → Stand (drop (top + 1) slots) (length pool)
integer_off_stands slots top a pool s l e k = (alone_integer slots top a pool s l e k).stand

-- the two on top are integers
pub record TwoIntegers (slots : List Slot) (top : ℕ) (a b : Slot) (pool : List ℕ) (old : List Content) : Type 0 where
  pub shown : old ≡ content.Integer a.integer ∷ content.Integer b.integer ∷ contents_of (drop (top + 1 + 1) slots) pool
  pub stand : Stand (drop (top + 1 + 1) slots) (length pool)
  pub start : b.start ≡ length pool

pub two_integers : (slots : List Slot) (top : ℕ) (a b : Slot) (pool : List ℕ) (old : List Content) → contents_of (drop top slots) pool ≡ old
    → Stand (drop top slots) (length pool) → top + 1 < length slots → a ≡ get_or slots top a → b ≡ get_or slots (top + 1) b → a.kind ≡ kind.Integer
    → b.kind ≡ kind.Integer → TwoIntegers slots top a b pool old
two_integers slots top a b pool old o s l e f ka kb =
    let one = alone_integer slots top a pool s (omega (arith, l)) e ka in
    let two = alone_integer slots (top + 1) b pool one.stand l f kb in
    record {
      shown = integer_off slots top a pool old o s (omega (arith, l)) e ka
          ∙ ap (λ xs. content.Integer a.integer ∷ xs) (integer_off slots (top + 1) b pool (contents_of (drop (top + 1) slots) pool) refl one.stand l f kb);
      stand = two.stand;
      start = two.start;
    }

-- a slot without bytes in the place of another
pub put_alone : (slots : List Slot) (at : ℕ) (v : Slot) (x : Content) (pool : List ℕ) → at < length slots → v.start ≡ length pool
    → ((made : List ℕ) → content_of v made ≡ x) →
    contents_of (drop at (set slots at v)) pool ≡ x ∷ contents_of (drop (at + 1) slots) pool
put_alone slots at v x pool l b e = ap (contents_of (drop at (set slots at v))) (sym (append-nil pool)) ∙ put_on slots at v x pool [] l b (e [])

pub put_stands : (slots : List Slot) (at : ℕ) (v : Slot) (n : ℕ) → at < length slots → v.start ≡ n → HasBytes v.kind v 0 → Stand (drop (at + 1) slots) n
    → Stand (drop at (set slots at v)) n
put_stands slots at v n l b h s =
    let fit : SlotFits v n = record { start = omega (arith, b); bytes = subst (λ k. HasBytes v.kind v k) (omega (arith, b)) h } in
    let t : Stand (v ∷ drop (at + 1) slots) n = (fit, subst (λ k. Stand (drop (at + 1) slots) k) (sym b) s) in
    subst (λ vs. Stand vs n) (sym (drop-set slots at v l)) t

pub integers_replaced : (slots : List Slot) (top : ℕ) (a b v : Slot) (pool : List ℕ) (old : List Content) (n : ℤ) → contents_of (drop top slots) pool ≡ old
    → Stand (drop top slots) (length pool) → top + 1 < length slots → a ≡ get_or slots top a → b ≡ get_or slots (top + 1) b → a.kind ≡ kind.Integer
    → b.kind ≡ kind.Integer → v.start ≡ b.start → ((made : List ℕ) → content_of v made ≡ content.Integer n) →
    put_for_integers n old ≡ Some (contents_of (drop (top + 1) (set slots (top + 1) v)) pool)
integers_replaced slots top a b v pool old n o s l e f ka kb g c =
    let two = two_integers slots top a b pool old o s l e f ka kb in
    ap (put_for_integers n) two.shown ∙ ap Some (sym (put_alone slots (top + 1) v (content.Integer n) pool l (g ∙ two.start) c))

pub integers_compared : (slots : List Slot) (top : ℕ) (a b v : Slot) (pool : List ℕ) (old : List Content) (n : ℤ) → contents_of (drop top slots) pool ≡ old
    → Stand (drop top slots) (length pool) → top + 1 < length slots → a ≡ get_or slots top a → b ≡ get_or slots (top + 1) b → a.kind ≡ kind.Integer
    → b.kind ≡ kind.Integer → v.start ≡ b.start → ((made : List ℕ) → content_of v made ≡ content.Integer n) → n ≡ one_if (int_eq b.integer a.integer) →
    compared old ≡ Some (contents_of (drop (top + 1) (set slots (top + 1) v)) pool)
integers_compared slots top a b v pool old n o s l e f ka kb g c i =
    let two = two_integers slots top a b pool old o s l e f ka kb in
    ap compared two.shown ∙ (ap (λ m. Some (content.Integer m ∷ contents_of (drop (top + 1 + 1) slots) pool)) (sym i)
    ∙ ap Some (sym (put_alone slots (top + 1) v (content.Integer n) pool l (g ∙ two.start) c)))

pub integers_stand : (slots : List Slot) (top : ℕ) (a b v : Slot) (pool : List ℕ) → Stand (drop top slots) (length pool) → top + 1 < length slots
    → a ≡ get_or slots top a → b ≡ get_or slots (top + 1) b → a.kind ≡ kind.Integer → b.kind ≡ kind.Integer → v.start ≡ b.start → HasBytes v.kind v 0
    → Stand (drop (top + 1) (set slots (top + 1) v)) (length pool)
integers_stand slots top a b v pool s l e f ka kb g h =
    let two = two_integers slots top a b pool (contents_of (drop top slots) pool) refl s l e f ka kb in
    put_stands slots (top + 1) v (length pool) l (g ∙ two.start) h two.stand

-- two strings
text_shown : (k : SlotKind) (v : Slot) (made : List ℕ) → is_text_kind k ≡ true → content_as k v made ≡ content.Text (text_as k v made)
text_shown kind.Lent v made e = refl
text_shown kind.Made v made e = refl
text_shown k v made e = cc

pub texts_compared : (slots : List Slot) (top : ℕ) (a b v : Slot) (pool : List ℕ) (old : List Content) (r : Bool) (n : ℤ) → contents_of (drop top slots) pool
    ≡ old → Stand (drop top slots) (length pool) → top + 1 < length slots → a ≡ get_or slots top a → b ≡ get_or slots (top + 1) b → is_text_kind a.kind ≡ true
    → is_text_kind b.kind ≡ true → r ≡ bytes_eq (slot_text b (drop b.start (take a.start pool))) (slot_text a (drop a.start pool)) → v.start ≡ b.start
    → ((made : List ℕ) → content_of v made ≡ content.Integer n) → n ≡ one_if r →
    compared old ≡ Some (contents_of (drop (top + 1) (set slots (top + 1) v)) (take b.start pool))
texts_compared slots top a b v pool old r n o s l e f ka kb q g c i =
    let fit = two_fit slots top a b (length pool) s l e f in
    let low : b.start ≤ a.start = fit.0.below.start in
    let high : b.start ≤ length pool = omega (arith, low, fit.0.top.start) in
    let y = slot_text a (drop a.start pool) in
    let x = slot_text b (drop b.start (take a.start pool)) in
    let rest = contents_of (drop (top + 2) slots) (take b.start pool) in
    let shown : old ≡ content.Text y ∷ content.Text x ∷ rest =
    opens_two slots top a b pool old o l e f low
    ∙ (ap (λ z. z ∷ content_of b (drop b.start (take a.start pool)) ∷ rest) (text_shown a.kind a (drop a.start pool) ka)
    ∙ ap (λ z. content.Text y ∷ z ∷ rest) (text_shown b.kind b (drop b.start (take a.start pool)) kb)) in
    let new : contents_of (drop (top + 1) (set slots (top + 1) v)) (take b.start pool) ≡ content.Integer n ∷ rest =
    put_alone slots (top + 1) v (content.Integer n) (take b.start pool) l (g ∙ sym (length-take-le b.start pool high)) c
    ∙ ap (λ k. content.Integer n ∷ contents_of (drop k slots) (take b.start pool)) (omega arith) in
    ap compared shown ∙ (ap (λ m. Some (content.Integer m ∷ rest)) (sym (i ∙ ap one_if q)) ∙ ap Some (sym new))

pub texts_stand : (slots : List Slot) (top : ℕ) (a b v : Slot) (pool : List ℕ) → Stand (drop top slots) (length pool) → top + 1 < length slots
    → a ≡ get_or slots top a → b ≡ get_or slots (top + 1) b → v.start ≡ b.start → HasBytes v.kind v 0
    → Stand (drop (top + 1) (set slots (top + 1) v)) (length (take b.start pool))
texts_stand slots top a b v pool s l e f g h =
    let fit = two_fit slots top a b (length pool) s l e f in
    let n : length (take b.start pool) ≡ b.start = length-take-le b.start pool (omega (arith, fit.0.below.start, fit.0.top.start)) in
    put_stands slots (top + 1) v (length (take b.start pool)) l (g ∙ sym n) h
    (subst (λ k. Stand (drop (top + 1 + 1) slots) k) (sym n) (subst (λ k. Stand (drop k slots) b.start) (omega arith) fit.1))

-- where the two on top begin
pub first_within : (slots : List Slot) (top : ℕ) (a b : Slot) (n : ℕ) → Stand (drop top slots) n → top + 1 < length slots → a ≡ get_or slots top a
    → b ≡ get_or slots (top + 1) b → a.start ≤ n
first_within slots top a b n s l e f = (two_fit slots top a b n s l e f).0.top.start

pub second_within : (slots : List Slot) (top : ℕ) (a b : Slot) (n : ℕ) → Stand (drop top slots) n → top + 1 < length slots → a ≡ get_or slots top a
    → b ≡ get_or slots (top + 1) b → b.start ≤ a.start
second_within slots top a b n s l e f = (two_fit slots top a b n s l e f).0.below.start

-- the one on top is replaced
none_large : (b : Bool) (y : Option (List Content)) → b ≡ false → cond b None y ≡ y
none_large b y e = ap (λ b. cond b None y) e

pub replaced_here : (slots : List Slot) (top : ℕ) (a v : Slot) (x : Content) (pool : List ℕ) (old : List Content) → contents_of (drop top slots) pool ≡ old
    → a.start ≤ length pool → top < length slots → a ≡ get_or slots top a → is_large_kind a.kind ≡ false → v.start ≡ a.start
    → ((made : List ℕ) → content_of v made ≡ x) →
    replaced x old ≡ Some (contents_of (drop top (set slots top v)) (take a.start pool))
replaced_here slots top a v x pool old o w l e k g c =
    let rest = contents_of (drop (top + 1) slots) (take a.start pool) in
    let shown : old ≡ content_of a (drop a.start pool) ∷ rest = sym o ∙ ap (λ vs. contents_of vs pool) (from_here slots top a l e) in
    ap (replaced x) shown ∙ (none_large (is_large (content_of a (drop a.start pool))) (Some (x ∷ rest)) (large_as a.kind a (drop a.start pool) ∙ k)
    ∙ ap Some (sym (put_alone slots top v x (take a.start pool) l (g ∙ sym (length-take-le a.start pool w)) c)))

-- the operands of `if$`
record Choice (slots : List Slot) (top : ℕ) (pool : List ℕ) (old : List Content) : Type 0 where
  below : below_choice old ≡ Some (contents_of (drop (top + 1 + 1 + 1) slots) pool)
  stand : Stand (drop (top + 1 + 1 + 1) slots) (length pool)

choice : (slots : List Slot) (top : ℕ) (a b c : Slot) (pool : List ℕ) (old : List Content) → contents_of (drop top slots) pool ≡ old
    → Stand (drop top slots) (length pool) → top + 1 + 1 < length slots → a ≡ get_or slots top a → b ≡ get_or slots (top + 1) b
    → c ≡ get_or slots (top + 1 + 1) c → a.kind ≡ kind.Function → b.kind ≡ kind.Function → c.kind ≡ kind.Integer → Choice slots top pool old
choice slots top a b c pool old o s l e f g ka kb kc =
    let one = alone_function slots top a pool s (omega (arith, l)) e ka in
    let two = alone_function slots (top + 1) b pool one.stand (omega (arith, l)) f kb in
    let three = alone_integer slots (top + 1 + 1) c pool two.stand l g kc in
    let first = function_off slots top a pool old o s (omega (arith, l)) e ka in
    let second = function_off slots (top + 1) b pool (contents_of (drop (top + 1) slots) pool) refl one.stand (omega (arith, l)) f kb in
    let third = integer_off slots (top + 1 + 1) c pool (contents_of (drop (top + 1 + 1) slots) pool) refl two.stand l g kc in
    let shown : old ≡ content.Function (callee_of a.op a.number) ∷ content.Function (callee_of b.op b.number) ∷ content.Integer c.integer
    ∷ contents_of (drop (top + 1 + 1 + 1) slots) pool =
    first ∙ (ap (λ xs. content.Function (callee_of a.op a.number) ∷ xs) second
    ∙ ap (λ xs. content.Function (callee_of a.op a.number) ∷ content.Function (callee_of b.op b.number) ∷ xs) third) in
    record { below = ap below_choice shown; stand = three.stand }

pub choice_off : (slots : List Slot) (top : ℕ) (a b c : Slot) (pool : List ℕ) (old : List Content) → contents_of (drop top slots) pool ≡ old
    → Stand (drop top slots) (length pool) → top + 2 < length slots → a ≡ get_or slots top a → b ≡ get_or slots (top + 1) b → c ≡ get_or slots (top + 2) c
    → a.kind ≡ kind.Function → b.kind ≡ kind.Function → c.kind ≡ kind.Integer →
    below_choice old ≡ Some (contents_of (drop (top + 3) slots) pool)
choice_off slots top a b c pool old o s l e f g ka kb kc =
    (choice slots top a b c pool old o s (omega (arith, l)) e f (subst (λ k. c ≡ get_or slots k c) (omega arith) g) ka kb kc).below
    ∙ ap (λ k. Some (contents_of (drop k slots) pool)) (omega arith)

pub choice_stands : (slots : List Slot) (top : ℕ) (a b c : Slot) (pool : List ℕ) → Stand (drop top slots) (length pool) → top + 2 < length slots
    → a ≡ get_or slots top a → b ≡ get_or slots (top + 1) b → c ≡ get_or slots (top + 2) c → a.kind ≡ kind.Function → b.kind ≡ kind.Function
    → c.kind ≡ kind.Integer → Stand (drop (top + 3) slots) (length pool)
choice_stands slots top a b c pool s l e f g ka kb kc =
    subst (λ k. Stand (drop k slots) (length pool)) (omega arith)
    (choice slots top a b c pool (contents_of (drop top slots) pool) refl s (omega (arith, l)) e f (subst (λ k. c ≡ get_or slots k c) (omega arith) g) ka kb
    kc).stand
