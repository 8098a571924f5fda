use Rattle.btx_ends.specs.Views.{claims_of}
use Rattle.btx_ends.proofs.CodeLemmas.{FirstHold, CostHolds}
use Rattle.btx_ends.proofs.checker.bodies_hold.Given as goal

abbrev pub invariant-loop-number : goal.invariant-loop-number
invariant-loop-number l = FirstHold (CostHolds (claims_of l.claims) l.style) l.number
