use Rattle.std.proofs.Common.{◌-◌, ◌≤◌, length}
use Rattle.btx_text.specs.refinement.Lowered.{AreLower}
use Rattle.btx_text.proofs.lowered.has_capital.Given as goal

abbrev pub invariant-loop-place : goal.invariant-loop-place
invariant-loop-place l = AreLower l.text 0 l.place × (l.place ≤ length l.text)

abbrev pub decreases-loop-place : goal.decreases-loop-place
decreases-loop-place l = l.last - l.place
