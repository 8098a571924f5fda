use Rattle.btx_ends.specs.Certificates.{climbs_by}
use Rattle.btx_ends.specs.Views.{claims_of}
use Rattle.btx_ends.proofs.CodeLemmas.{FirstHold, LimitAt}
use Rattle.btx_ends.proofs.climbs.limits_hold.Given as goal

abbrev pub invariant-loop-number : goal.invariant-loop-number
invariant-loop-number l = FirstHold (LimitAt (claims_of l.claims) l.style (climbs_by l.climbs) l.limits) l.number
