use Rattle.std.proofs.Common.{length}
use Rattle.btx_bib.specs.refinement.Gatherings.{GoesOn}
use Rattle.btx_bib.specs.refinement.Grammar.Reads.{left}
use Rattle.btx_bib.specs.refinement.Requests.{wanted}
use Rattle.btx_bib.proofs.gathering.Gathering.pass_fields.Given as goal

-- the events that are left do the rest
abbrev pub invariant-loop-rest : goal.invariant-loop-rest
invariant-loop-rest l = GoesOn (wanted l.request) l.self l.initial.reader l.reader

abbrev pub decreases-loop-rest : goal.decreases-loop-rest
decreases-loop-rest l = left l.reader.0 (length l.reader.1)
