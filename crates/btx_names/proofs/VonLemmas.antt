-- Lemmas on von tokens.
use Rattle.std.proofs.Common.{◌≡◌, false, Bool, Some, None, List, [], ◌∷◌, refl}
use Rattle.btx_text.specs.language.Elements.{Element}
use Rattle.btx_names.specs.language.VonTokens.{first_is_lower}
use Rattle.btx_names.specs.laws.VonTokens.{casing}

pub first_is_lower_here : (part : Element) (parts : List Element) (answer : Bool) → casing part ≡ Some answer → first_is_lower (part ∷ parts) ≡ answer
unfolding first_is_lower
first_is_lower_here part parts answer is = rw is refl

pub first_is_lower_next : (part : Element) (parts : List Element) → casing part ≡ None → first_is_lower (part ∷ parts) ≡ first_is_lower parts
unfolding first_is_lower
first_is_lower_next part parts is = rw is refl

pub first_is_lower_nil : first_is_lower [] ≡ false
unfolding first_is_lower
first_is_lower_nil = refl

pub ruleset von_steps = (first_is_lower_here, first_is_lower_next, first_is_lower_nil)
