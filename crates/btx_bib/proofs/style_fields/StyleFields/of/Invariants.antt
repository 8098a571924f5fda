use Rattle.std.proofs.Common.{◌≡◌}
use Rattle.btx_bib.proofs.style_fields.StyleFields.of.Given as goal

abbrev pub invariant-loop-number : goal.invariant-loop-number
invariant-loop-number l = l.fields ≡ l.style
