use Rattle.btx_ends.specs.Certificates.{climbs_by}
use Rattle.btx_ends.proofs.CodeLemmas.{FirstHold, RaiseAt}
use Rattle.btx_ends.proofs.climbs.all_raise.Given as goal

abbrev pub invariant-loop-number : goal.invariant-loop-number
invariant-loop-number l = FirstHold (RaiseAt l.style (climbs_by l.climbs) l.raises) l.number
