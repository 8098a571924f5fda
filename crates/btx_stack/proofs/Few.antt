-- Where there are too few slots
use Rattle.std.proofs.Common.{ℕ, ◌≡◌, ◌≤◌, List, [], ◌∷◌, length, drop, Bool, true, false, cond, Option, Some, None, refl, sym, arith}
use Rattle.std.proofs.lemmas.Bool.{cond_above}
use Rattle.btx_stack.specs.declared.slot.Slot.{Slot}
use Rattle.btx_stack.specs.refinement.Content.{Content}
use Rattle.btx_stack.specs.refinement.Slots.{contents_of}
use Rattle.btx_stack.specs.refinement.Steps.{on_two, duplicated, is_large, with_pushed}
use Rattle.btx_stack.proofs.Pushes.{count_is}

two_of : (f : Content → Content → List Content → Option (List Content)) (old : List Content) → length old ≤ 1 → on_two f old ≡ None
two_of f [] l = refl
two_of f (x ∷ []) l = refl
two_of f (x ∷ y ∷ xs) l = absurd (omega arith)

pub fewer_than_two : (f : Content → Content → List Content → Option (List Content)) (slots : List Slot) (top : ℕ) (pool : List ℕ) (old : List Content)
    → contents_of (drop top slots) pool ≡ old → length slots ≡ 1000 → 999 ≤ top → on_two f old ≡ None
fewer_than_two f slots top pool old o l t = two_of f old (omega (arith, count_is slots top pool old o l))

none_either : (b : Bool) (y : Option (List Content)) → y ≡ None → cond b None y ≡ None
none_either true y e = refl
none_either false y e = e

full_again : (old : List Content) → 1000 ≤ length old → duplicated old ≡ None
full_again [] l = refl
full_again (x ∷ xs) l = none_either (is_large x) (with_pushed x (x ∷ xs)) (sym (cond_above (length (x ∷ xs)) 1000 (Some (x ∷ x ∷ xs)) None None l refl))

pub no_room_again : (slots : List Slot) (top : ℕ) (pool : List ℕ) (old : List Content) → contents_of (drop top slots) pool ≡ old → length slots ≡ 1000 → top ≡ 0
    → duplicated old ≡ None
no_room_again slots top pool old o l t = full_again old (omega (arith, count_is slots top pool old o l))
