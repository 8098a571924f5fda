-- `swap$`
use Rattle.std.proofs.Common.{ℕ, ◌≡◌, ◌≤◌, ◌<◌, ◌+◌, ◌-◌, ◌^◌, List, ◌∷◌, ◌++◌, length, take, drop, set, get_or, Some, None, cond, false, true, refl, sym, ap}
use Rattle.std.proofs.Common.{subst, ◌∙◌, arith}
use Rattle.std.proofs.lemmas.List.{drop-set, set_comm, length-set, length-drop, length-take-le, length-append, drop-drop, append_assoc}
use Rattle.btx_stack.specs.declared.slot.SlotKind.{SlotKind}
use Rattle.btx_stack.specs.declared.slot.SlotKind.TheVariants as kind
use Rattle.btx_stack.specs.declared.slot.Slot.{Slot}
use Rattle.btx_stack.specs.refinement.Content.{Content}
use Rattle.btx_stack.specs.refinement.Slots.{content_of, content_as, contents_of, Stand, SlotFits, HasBytes, are_large_kinds, is_large_kind}
use Rattle.btx_stack.specs.refinement.Steps.{swapped, are_large, is_large}
use Rattle.btx_stack.proofs.Opens.{opens_two, two_fit, range_is, large_as}
use Rattle.btx_stack.proofs.Pushes.{on_parts, small}

-- a value that begins elsewhere
abbrev pub moved : Slot → ℕ → Slot
moved v start = record v { start = start }

content_moved : (k : SlotKind) (v : Slot) (start : ℕ) (made : List ℕ) → content_as k (moved v start) made ≡ content_as k v made
content_moved kind.Integer v start made = refl
content_moved k v start made = refl

bytes_moved : (k : SlotKind) (v : Slot) (start n : ℕ) → HasBytes k v n → HasBytes k (moved v start) n
bytes_moved kind.Integer v start n h = h
bytes_moved k v start n h = h

-- a value with as many bytes elsewhere
fits_moved : (v : Slot) (size start now : ℕ) → SlotFits v size → start ≤ now → size - v.start ≡ now - start → SlotFits (moved v start) now
fits_moved v size start now f h e =
    record { start = h; bytes = subst (λ n. HasBytes v.kind (moved v start) n) e (bytes_moved v.kind v start (size - v.start) f.bytes) }

two_set : (slots : List Slot) (top : ℕ) (x y : Slot) → top + 1 < length slots → drop top (set (set slots top x) (top + 1) y) ≡ x ∷ y ∷ drop (top + 2) slots
two_set slots top x y l =
    ap (drop top) (set_comm slots top (top + 1) x y (λ e. omega arith))
    ∙ (drop-set (set slots (top + 1) y) top x (omega (arith, length-set slots (top + 1) y))
    ∙ ap (λ vs. x ∷ vs) (drop-set slots (top + 1) y l ∙ ap (λ n. y ∷ drop n slots) (omega arith)))

pub swap_fits : (slots : List Slot) (top n : ℕ) (a b : Slot) → length slots ≡ 1000 → Stand (drop top slots) n → top < 999 → a ≡ get_or slots top a
    → b ≡ get_or slots (top + 1) b → b.start + (n - a.start) < 2 ^ 32
swap_fits slots top n a b l s t e f =
    let fit = two_fit slots top a b n s (omega arith) e f in
    omega (arith, small slots top n l s, fit.0.top.start, fit.0.below.start)

pub swap_stands : (slots : List Slot) (top n m : ℕ) (a b : Slot) → length slots ≡ 1000 → Stand (drop top slots) n → top < 999 → a ≡ get_or slots top a
    → b ≡ get_or slots (top + 1) b → m ≡ n →
    Stand (drop top (set (set slots top (moved b (b.start + (n - a.start)))) (top + 1) (moved a b.start))) m
swap_stands slots top n m a b l s t e f same =
    let fit = two_fit slots top a b n s (omega arith) e f in
    let high : a.start ≤ n = fit.0.top.start in
    let low : b.start ≤ a.start = fit.0.below.start in
    let at = b.start + (n - a.start) in
    subst (λ k. Stand (drop top (set (set slots top (moved b at)) (top + 1) (moved a b.start))) k) (sym same)
    (subst (λ vs. Stand vs n) (sym (two_set slots top (moved b at) (moved a b.start) (omega arith)))
    (fits_moved b a.start at n fit.0.below (omega arith) (omega arith), (fits_moved a n b.start at fit.0.top (omega arith) (omega arith), fit.1)))

are_large_as : (a b : Slot) (r q : List ℕ) → are_large (content_of a r) (content_of b q) ≡ are_large_kinds a.kind b.kind
are_large_as a b r q = ap (λ z. cond z (is_large (content_of b q)) false) (large_as a.kind a r)
    ∙ ap (λ z. cond (is_large_kind a.kind) z false) (large_as b.kind b q)

pub swap_shows : (slots : List Slot) (top : ℕ) (a b : Slot) (pool new : List ℕ) (old : List Content) → contents_of (drop top slots) pool ≡ old
    → length slots ≡ 1000 → Stand (drop top slots) (length pool) → top < 999 → a ≡ get_or slots top a → b ≡ get_or slots (top + 1) b
    → are_large_kinds a.kind b.kind ≡ false →
    new ≡ take b.start pool ++ (drop (a.start - b.start) (drop b.start pool) ++ take (a.start - b.start) (drop b.start pool)) →
    swapped old ≡ Some (contents_of (drop top (set (set slots top (moved b (b.start + (length pool - a.start)))) (top + 1) (moved a b.start))) new)
swap_shows slots top a b pool new old o l s t e f g i =
    let fit = two_fit slots top a b (length pool) s (omega arith) e f in
    let high : a.start ≤ length pool = fit.0.top.start in
    let low : b.start ≤ a.start = fit.0.below.start in
    let at = b.start + (length pool - a.start) in
    let rest = drop (top + 2) slots in
    let p = take b.start pool in
    let q = drop b.start (take a.start pool) in
    let r = drop a.start pool in
    let lp : length p ≡ b.start = length-take-le b.start pool (omega arith) in
    let lr : length r ≡ length pool - a.start = length-drop a.start pool in
    let parts : new ≡ (p ++ r) ++ q =
    i ∙ (ap (λ ys. p ++ (ys ++ take (a.start - b.start) (drop b.start pool))) (drop-drop (a.start - b.start) b.start pool ∙ ap (λ n. drop n pool) (omega arith))
    ∙ (ap (λ ys. p ++ (r ++ ys)) (range_is pool b.start a.start) ∙ sym (append_assoc p r q))) in
    let shown : old ≡ content_of a r ∷ content_of b q ∷ contents_of rest p = opens_two slots top a b pool old o (omega arith) e f low in
    let made : contents_of (drop top (set (set slots top (moved b at)) (top + 1) (moved a b.start))) new ≡ content_of b q ∷ content_of a r
    ∷ contents_of rest p =
    ap (λ vs. contents_of vs new) (two_set slots top (moved b at) (moved a b.start) (omega arith))
    ∙ (ap (contents_of (moved b at ∷ moved a b.start ∷ rest)) parts
    ∙ (on_parts (moved b at) (moved a b.start ∷ rest) (p ++ r) q (sym (length-append p r ∙ omega arith))
    ∙ (ap (λ x. x ∷ contents_of (moved a b.start ∷ rest) (p ++ r)) (content_moved b.kind b at q)
    ∙ ap (λ xs. content_of b q ∷ xs) (on_parts (moved a b.start) rest p r (sym lp) ∙ ap (λ x. x ∷ contents_of rest p) (content_moved a.kind a b.start r))))) in
    ap swapped shown ∙ (ap (λ z. cond z None (Some (content_of b q ∷ content_of a r ∷ contents_of rest p))) (are_large_as a b r q ∙ g) ∙ ap Some (sym made))

-- two long strings on top
pub swap_large : (slots : List Slot) (top : ℕ) (a b : Slot) (pool : List ℕ) (old : List Content) → contents_of (drop top slots) pool ≡ old → length slots ≡ 1000
    → Stand (drop top slots) (length pool) → top < 999 → a ≡ get_or slots top a → b ≡ get_or slots (top + 1) b → are_large_kinds a.kind b.kind ≡ true
    → swapped old ≡ None
swap_large slots top a b pool old o l s t e f g =
    let fit = two_fit slots top a b (length pool) s (omega arith) e f in
    let rest = contents_of (drop (top + 2) slots) (take b.start pool) in
    let r = drop a.start pool in
    let q = drop b.start (take a.start pool) in
    ap swapped (opens_two slots top a b pool old o (omega arith) e f fit.0.below.start) ∙ ap (λ z. cond z None (Some (content_of b q ∷ content_of a r ∷ rest)))
    (are_large_as a b r q ∙ g)
