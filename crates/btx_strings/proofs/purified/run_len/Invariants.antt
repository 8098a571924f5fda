use Rattle.std.proofs.Common.{◌≡◌, ◌+◌, drop}
use Rattle.std.specs.List.{prefix_len}
use Rattle.btx_strings.specs.refinement.Purify.{stays}
use Rattle.btx_strings.proofs.purified.run_len.Given as goal

abbrev pub invariant-loop-i : goal.invariant-loop-i
invariant-loop-i l = l.i + prefix_len stays (drop l.i l.rest) ≡ prefix_len stays l.rest
