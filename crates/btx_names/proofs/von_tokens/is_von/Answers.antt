use Rattle.std.proofs.Common.{sym, ◌∙◌}
use Rattle.btx_names.proofs.VonLemmas.{first_is_lower_here}
use Rattle.btx_names.proofs.von_tokens.is_von.Goals as goal

pub returns-in-Some-casing : goal.returns-in-Some-casing
returns-in-Some-casing c =
    sym (first_is_lower_here _ _ c.in-Some-casing.is_lower (sym c.in-Some-casing.ensures)) ∙ rw c.in-Some.ensures.steps at c.loop-element.invariant
