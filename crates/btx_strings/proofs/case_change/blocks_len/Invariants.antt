use Rattle.std.proofs.Common.{◌-◌, ◌≤◌, length}
use Rattle.btx_strings.specs.refinement.CaseState.{ArePlain}
use Rattle.btx_strings.proofs.case_change.blocks_len.Given as goal

abbrev pub invariant-loop-place : goal.invariant-loop-place
invariant-loop-place l = ArePlain l.rest 0 l.place × (l.place ≤ length l.rest)

abbrev pub decreases-loop-place : goal.decreases-loop-place
decreases-loop-place l = length l.rest - l.place
