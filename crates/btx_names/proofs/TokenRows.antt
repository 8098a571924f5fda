-- Worked tokens, computed from the definition.
use Rattle.std.proofs.Common.{◌≡◌, true, false, refl}
use Rattle.std.specs.List.{list_all, list_any}
use Rattle.btx_text.specs.language.Elements.{kind_at, group_len, elements_from, elements_of}
use Rattle.btx_strings.specs.language.Controls.{letters_of}
use Rattle.btx_names.specs.language.VonTokens.{is_lower_special, first_is_lower, is_von}
use Rattle.btx_names.specs.laws.WorkedTokens.{von_tokens, other_tokens}

pub von-worked : list_all is_von von_tokens ≡ true
unfolding kind_at group_len elements_from elements_of letters_of is_lower_special first_is_lower is_von
von-worked = refl

pub others-worked : list_any is_von other_tokens ≡ false
unfolding kind_at group_len elements_from elements_of letters_of is_lower_special first_is_lower is_von
others-worked = refl
