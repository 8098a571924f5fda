use Rattle.std.proofs.Common.{◌≡◌, ◌≤◌, true, length}
use Rattle.btx_bib.specs.refinement.Gatherings.{all_kept, all_messages}
use Rattle.btx_bib.specs.language.Known.{goes_on}
use Rattle.btx_bib.specs.refinement.Requests.{wanted}
use Rattle.btx_bib.specs.language.Messages.{Database}
use Rattle.btx_bib.specs.refinement.Grammar.Reads.{left}
use Rattle.btx_bib.proofs.gathering.Gathering.take_plain_fields.Given as goal

-- the events that are left do the rest
abbrev pub invariant-loop-field : goal.invariant-loop-field
invariant-loop-field l = record {
  whole : goes_on l.self.ending ≡ true;
  state : all_kept (wanted l.request) l.self l.reader ≡ all_kept (wanted l.request) l.initial.self l.initial.reader;
  logged : (database : Database) → all_messages (wanted l.request) database l.self l.reader ≡ all_messages (wanted l.request) database l.initial.self
      l.initial.reader;
  shorter : left l.reader.0 (length l.reader.1) ≤ left l.initial.reader.0 (length l.initial.reader.1);
}

abbrev pub decreases-loop-field : goal.decreases-loop-field
decreases-loop-field l = left l.reader.0 (length l.reader.1)
