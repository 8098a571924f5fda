-- A period is added where the string isn't ended.
use Rattle.std.proofs.Common.{◌≡◌, ◌∙◌, refl, sym, ℕ, List, [], ◌∷◌, ◌++◌, Bool, true, false, not, length, eqb, if◌then◌else◌}
use Rattle.std.proofs.lemmas.Bool.{true≢false}
use Rattle.btx_strings.specs.language.Positions as spec
use Rattle.btx_strings.specs.refinement.Positions as part

by_opposite : {T : Type 0} (test : Bool) (a b : T) → (if test then a else b) ≡ (if not test then b else a)
by_opposite true a b = refl
by_opposite false a b = refl

pub period_added : (string : List ℕ) (empty ended : Bool) → empty ≡ eqb (length string) 0 → empty ≡ false → ended ≡ spec.is_ended (part.last_mark string) →
    spec.add_period_of string ≡ (if not ended then string ++ part.period ∷ [] else string)
period_added [] empty ended asked is said = absurd (true≢false (sym asked ∙ is))
period_added (b ∷ bs) empty ended asked is said = rw said (by_opposite (spec.is_ended (part.last_mark (b ∷ bs))) (b ∷ bs) ((b ∷ bs) ++ part.period ∷ []))
