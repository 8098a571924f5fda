use Rattle.std.proofs.Common.{◌≡◌, [], replicate}
use Rattle.btx_step.proofs.values.empty_strings.Given as goal

abbrev pub invariant-loop-string : goal.invariant-loop-string
invariant-loop-string l = l.strings.items ≡ replicate l._string []
