use Rattle.std.proofs.Common.{◌≡◌, take}
use Rattle.btx_run.specs.refinement.Files.Counts.{counts_at}
use Rattle.btx_run.specs.refinement.Files.Logging.{Logs}
use Rattle.btx_machine.specs.refinement.Wholeness.{StaysWhole}
use Rattle.btx_run.specs.refinement.Files.Places.{HandsOf}
use Rattle.btx_run.proofs.files.logging.log_all.Given as goal

-- the lines so far were logged, and handed to the notebook as ones of the job's files, where the log goes, and no write has failed
abbrev pub invariant-loop-line : goal.invariant-loop-line
invariant-loop-line g l = record {
  logs : Logs (counts_at l.initial.journal, counts_at l.journal) (l.initial.journal.sink.received, l.journal.sink.received) (take l.line-index l.lines);
  met : HandsOf l.initial.journal l.journal l.lines;
  sink : l.journal.sink.name ≡ l.initial.journal.sink.name;
  failures : l.journal.sink.failures.count ≡ l.initial.journal.sink.failures.count;
  joined : l.journal.joined ≡ l.initial.journal.joined;
  wholeness : StaysWhole l.initial.journal.wholeness l.journal.wholeness;
}
