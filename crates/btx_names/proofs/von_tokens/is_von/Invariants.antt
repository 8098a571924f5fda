use Rattle.std.proofs.Common.{◌≡◌}
use Rattle.btx_names.specs.language.VonTokens.{first_is_lower, is_von}
use Rattle.btx_names.proofs.von_tokens.is_von.Given as goal

abbrev pub invariant-loop-element : goal.invariant-loop-element
invariant-loop-element l = first_is_lower l.element-iterator ≡ is_von l.token
