use Rattle.std.proofs.Common.{length}
use Rattle.btx_bib.specs.refinement.Gatherings.{GoesOn}
use Rattle.btx_bib.specs.refinement.Grammar.Reads.{left}
use Rattle.btx_bib.specs.refinement.Requests.{wanted}
use Rattle.btx_bib.proofs.gathering.Gathering.pass_unwanted.Given as goal

-- the events that are left do the rest
abbrev pub invariant-loop-head : goal.invariant-loop-head
invariant-loop-head l = GoesOn (wanted l.request) l.self l.initial.reader l.reader

abbrev pub decreases-loop-head : goal.decreases-loop-head
decreases-loop-head l = left l.reader.0 (length l.reader.1)
