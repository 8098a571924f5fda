use Rattle.std.proofs.Common.{◌≡◌, drop}
use Rattle.btx_step.proofs.Common.{wrong}
use Rattle.btx_step.proofs.store.Store.first_wrong.Given as goal

abbrev pub invariant-loop-place : goal.invariant-loop-place
invariant-loop-place l = wrong (drop l.place l.operands) (drop l.place l.self.literals) ≡ wrong l.operands l.self.literals
