use Rattle.btx_ends.specs.Certificates.{measures_by}
use Rattle.btx_ends.proofs.CodeLemmas.{FirstHold, EndAt}
use Rattle.btx_ends.proofs.checker.ends_hold.Given as goal

abbrev pub invariant-loop-number : goal.invariant-loop-number
invariant-loop-number l = FirstHold (EndAt l.style (measures_by l.measures) l.ends) l.number
