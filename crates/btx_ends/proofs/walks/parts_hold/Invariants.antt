use Rattle.btx_ends.specs.Certificates.{walks_by}
use Rattle.btx_ends.proofs.CodeLemmas.{FirstHold, PartAt}
use Rattle.btx_ends.proofs.walks.parts_hold.Given as goal

abbrev pub invariant-loop-number : goal.invariant-loop-number
invariant-loop-number l = FirstHold (PartAt l.style (walks_by l.walks) l.integers l.parts) l.number
