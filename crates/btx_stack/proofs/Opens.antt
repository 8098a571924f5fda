-- The slots on top, and what they are.
use Rattle.std.proofs.Common.{ℕ, None, ◌≡◌, ◌≤◌, ◌<◌, ◌+◌, ◌-◌, List, ◌∷◌, ◌++◌, length, take, drop, get_or, refl, sym, ap, subst, ◌∙◌, arith}
use Rattle.std.proofs.lemmas.List.{drop_more, take-take, take-append-drop, drop-append-le, length-take}
use Rattle.std.proofs.lemmas.Slice.{between_is}
use Rattle.btx_stack.specs.declared.slot.SlotKind.{SlotKind}
use Rattle.btx_stack.specs.declared.slot.SlotKind.TheVariants as kind
use Rattle.btx_stack.specs.declared.slot.Slot.{Slot}
use Rattle.btx_stack.specs.refinement.Content.{Content}
use Rattle.btx_stack.specs.refinement.Slots.{content_of, content_as, contents_of, Stand, SlotFits, is_large_kind}
use Rattle.btx_stack.specs.refinement.Steps.{is_large, large_on}

-- the slots from a place on
pub from_here : (slots : List Slot) (at : ℕ) (v : Slot) → at < length slots → v ≡ get_or slots at v → drop at slots ≡ v ∷ drop (at + 1) slots
from_here slots at v l e = drop_more slots at v l ∙ ap (λ x. x ∷ drop (at + 1) slots) (sym e)

pub two_here : (slots : List Slot) (at : ℕ) (a b : Slot) → at + 1 < length slots → a ≡ get_or slots at a → b ≡ get_or slots (at + 1) b
    → drop at slots ≡ a ∷ b ∷ drop (at + 2) slots
two_here slots at a b l e f =
    from_here slots at a (omega arith) e ∙ ap (λ xs. a ∷ xs) (from_here slots (at + 1) b l f ∙ ap (λ n. b ∷ drop n slots) (omega arith))

pub large_as : (k : SlotKind) (v : Slot) (made : List ℕ) → is_large (content_as k v made) ≡ is_large_kind k
large_as kind.Large v made = refl
large_as k v made = refl

pub no_large_kind : (k : SlotKind) (v : Slot) (made : List ℕ) (xs : List Content) → (k ≡ kind.Large → ⊥) → large_on (content_as k v made ∷ xs) ≡ None
no_large_kind kind.Large v made xs n = absurd (n refl)
no_large_kind k v made xs n = refl

pub no_large : (slots : List Slot) (top : ℕ) (a : Slot) (pool : List ℕ) (old : List Content) → contents_of (drop top slots) pool ≡ old → top < length slots
    → a ≡ get_or slots top a → (a.kind ≡ kind.Large → ⊥) → None ≡ large_on old
no_large slots top a pool old o l e k =
    sym (sym (ap large_on o) ∙ (ap (λ vs. large_on (contents_of vs pool)) (from_here slots top a l e) ∙ no_large_kind a.kind a _ _ k))

-- the two on top
pub opens_two : (slots : List Slot) (top : ℕ) (a b : Slot) (pool : List ℕ) (old : List Content) → contents_of (drop top slots) pool ≡ old
    → top + 1 < length slots → a ≡ get_or slots top a → b ≡ get_or slots (top + 1) b → b.start ≤ a.start →
    old ≡ content_of a (drop a.start pool) ∷ content_of b (drop b.start (take a.start pool)) ∷ contents_of (drop (top + 2) slots) (take b.start pool)
opens_two slots top a b pool old o l e f h =
    sym o ∙ (ap (λ vs. contents_of vs pool) (two_here slots top a b l e f)
    ∙ ap (λ ys. content_of a (drop a.start pool) ∷ content_of b (drop b.start (take a.start pool)) ∷ contents_of (drop (top + 2) slots) ys)
    (take-take b.start a.start pool h))

-- where the two on top begin
pub record TwoFit (a b : Slot) (size : ℕ) : Type 0 where
  pub top : SlotFits a size
  pub below : SlotFits b a.start

pub two_fit : (slots : List Slot) (top : ℕ) (a b : Slot) (n : ℕ) → Stand (drop top slots) n → top + 1 < length slots → a ≡ get_or slots top a
    → b ≡ get_or slots (top + 1) b → TwoFit a b n × Stand (drop (top + 2) slots) b.start
two_fit slots top a b n s l e f =
    let t : Stand (a ∷ b ∷ drop (top + 2) slots) n = subst (λ vs. Stand vs n) (two_here slots top a b l e f) s in
    (record { top = t.0; below = t.1.0 }, t.1.1)

-- a range of bytes
pub range_is : (xs : List ℕ) (s t : ℕ) → take (t - s) (drop s xs) ≡ drop s (take t xs)
range_is xs s t = between_is xs s t

-- bytes from a place on, in two parts
pub in_parts : (xs : List ℕ) (s t : ℕ) → s ≤ t → t ≤ length xs → drop s xs ≡ drop s (take t xs) ++ drop t xs
in_parts xs s t h k =
    ap (λ ys. drop s ys) (sym (take-append-drop t xs)) ∙ drop-append-le s (take t xs) (drop t xs) (omega (arith, length-take t xs))
