use Rattle.std.proofs.Common.{◌≡◌, [], take}
use Rattle.btx_aux.specs.refinement.Answers.{ByAnswers}
use Rattle.btx_aux.specs.refinement.Entries.{texts_of}
use Rattle.btx_run.specs.refinement.Files.Counts.{counts_at}
use Rattle.btx_run.specs.refinement.Files.Asked.{AreAmong}
use Rattle.btx_machine.specs.refinement.Wholeness.{StaysWhole}
use Rattle.btx_core.specs.language.Files.Databases.{databases_logged}
use Rattle.btx_run.specs.refinement.Files.Places.{HandsOf}
use Rattle.btx_run.specs.refinement.Files.Readings.{IsRead, databases_read}
use Rattle.btx_run.proofs.files.databases.find_databases.Given as goal

-- the databases of the names so far were looked for, the log goes where it went, and no fetch and no write has failed
abbrev pub invariant-loop-name : goal.invariant-loop-name
invariant-loop-name g l =
    let finder = g.F.Finder in
    record {
      read : ByAnswers (finder.content l.initial.finder) (finder.answers l.initial.finder) (finder.answers l.finder)
          (λ asked. AreAmong asked (texts_of (take l.name-index l.names))) (λ files.
          IsRead l.found (counts_at l.initial.journal, counts_at l.journal) (l.initial.journal.sink.received, l.journal.sink.received)
          (databases_read files (texts_of (take l.name-index l.names))));
      met : ByAnswers (finder.content l.initial.finder) (finder.answers l.initial.finder) (finder.answers l.finder)
          (λ asked. AreAmong asked (texts_of (take l.name-index l.names))) (λ files.
          HandsOf l.initial.journal l.journal (databases_logged files [] (texts_of (take l.name-index l.names))));
      stays : finder.content l.finder ≡ finder.content l.initial.finder;
      fetches : (finder.failures l.finder).count ≡ (finder.failures l.initial.finder).count;
      sink : l.journal.sink.name ≡ l.initial.journal.sink.name;
      writes : l.journal.sink.failures.count ≡ l.initial.journal.sink.failures.count;
      joined : l.journal.joined ≡ l.initial.journal.joined;
      wholeness : StaysWhole l.initial.journal.wholeness l.journal.wholeness;
    }
