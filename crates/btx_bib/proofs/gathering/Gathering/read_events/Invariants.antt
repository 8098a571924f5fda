use Rattle.std.proofs.Common.{◌≡◌, true, length}
use Rattle.btx_bib.specs.refinement.Gatherings.{read_on}
use Rattle.btx_bib.specs.language.Known.{goes_on}
use Rattle.btx_bib.specs.refinement.Grammar.Reads.{left}
use Rattle.btx_bib.proofs.gathering.Gathering.read_events.Given as goal

-- the events that are left do the rest
abbrev pub invariant-loop-placed : goal.invariant-loop-placed
invariant-loop-placed l = record {
  whole : goes_on l.self.ending ≡ true;
  rest : read_on l.reading l.self l.reader ≡ read_on l.initial.reading l.initial.self l.initial.reader;
}

abbrev pub decreases-loop-placed : goal.decreases-loop-placed
decreases-loop-placed l = left l.reader.0 (length l.reader.1)
