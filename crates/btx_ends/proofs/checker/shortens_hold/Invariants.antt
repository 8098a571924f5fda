use Rattle.btx_ends.specs.Certificates.{measures_by}
use Rattle.btx_ends.proofs.CodeLemmas.{FirstHold, ShortenAt}
use Rattle.btx_ends.proofs.checker.shortens_hold.Given as goal

abbrev pub invariant-loop-number : goal.invariant-loop-number
invariant-loop-number l = FirstHold (ShortenAt l.style (measures_by l.measures) l.shortens) l.number
