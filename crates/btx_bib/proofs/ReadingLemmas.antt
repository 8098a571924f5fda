-- What is kept and reported while a database is read, event by event.
use Rattle.std.proofs.Common.{◌≡◌, ℕ, true, false, List, [], ◌++◌, None, Some, ap, ap₂, ◌∙◌, append-nil, append_assoc}
use Rattle.btx_bib.specs.declared.gathering.Gathering.{Gathering}
use Rattle.btx_bib.specs.declared.grammar.commands.Expected.{Expected as Next}
use Rattle.btx_bib.specs.declared.message.Message.{Message}
use Rattle.btx_bib.specs.declared.reading.Reading.{Reading}
use Rattle.btx_bib.specs.language.Grammar.Items.{Step, next_step}
use Rattle.btx_bib.specs.language.Known.{goes_on}
use Rattle.btx_bib.specs.language.Messages.{Database}
use Rattle.btx_bib.specs.refinement.Gatherings.{all_kept, all_messages, events_with, is_kept, kept_after, messages_of, read_on}
use Rattle.btx_bib.specs.refinement.Sites.{asked_in, database_read, reported}
use Rattle.btx_bib.proofs.GatheringLemmas.{ended-along, ended-logged, none-along, none-logged, turn-along, turn-logged}

reported-nil : (reading : Reading) → reported reading [] ≡ reading
reported-nil reading = ap (λ (ms : List Message). record reading { messages = ms }) (append-nil reading.messages)

module _ (reading : Reading) (kept : Gathering) (place : Next × List ℕ) where
  pub plain-on : (after : Gathering) (to : Next × List ℕ) → all_kept (asked_in reading) after to ≡ all_kept (asked_in reading) kept place
      → ((database : Database) → all_messages (asked_in reading) database after to ≡ all_messages (asked_in reading) database kept place)
      → read_on reading after to ≡ read_on reading kept place
  plain-on after to state logged = ap₂ (λ (k : Gathering) (ms : List Message). (k, reported reading ms)) state (logged (database_read reading))

  -- at a limit nothing more is kept or reported
  pub ended-on : goes_on kept.ending ≡ false → read_on reading kept place ≡ (kept, reading)
  ended-on ended =
      let events = events_with (asked_in reading) kept place.0 place.1 in
      ap₂ (λ (k : Gathering) (ms : List Message). (k, reported reading ms)) (ended-along (asked_in reading) kept events ended)
      (ended-logged (asked_in reading) (database_read reading) kept events ended)
      ∙ ap (λ (r : Reading). (kept, r)) (reported-nil reading)

  -- nor where nothing is left
  pub none-on : next_step (is_kept kept) place.0 place.1 ≡ None → read_on reading kept place ≡ (kept, reading)
  none-on e =
      ap₂ (λ (k : Gathering) (ms : List Message). (k, reported reading ms)) (none-along (asked_in reading) kept place.0 place.1 e)
      (none-logged (asked_in reading) kept place.0 place.1 (database_read reading) e)
      ∙ ap (λ (r : Reading). (kept, r)) (reported-nil reading)

  -- the events after one give the rest
  pub turn-on : (step : Step) (after : Gathering) (read : Reading) (rest : List ℕ) → goes_on kept.ending ≡ true
      → next_step (is_kept kept) place.0 place.1 ≡ Some step → rest ≡ step.rest → after ≡ kept_after (asked_in reading) kept step.event
      → read ≡ reported reading (messages_of (asked_in reading) (database_read reading) kept step.event rest)
      → read_on read after (step.wanted, step.rest) ≡ read_on reading kept place
  turn-on step after read rest whole e at state logged =
      let asked = asked_in reading in
      let database = database_read reading in
      let others = all_messages asked database after (step.wanted, step.rest) in
      ap (λ (r : Reading). read_on r after (step.wanted, step.rest)) logged
      ∙ ap₂ (λ (k : Gathering) (ms : List Message). (k, record reading { messages = ms })) (turn-along asked kept place.0 place.1 step after whole e state)
      (append_assoc reading.messages (messages_of asked database kept step.event rest) others
      ∙ ap (λ (r : List ℕ). reading.messages ++ (messages_of asked database kept step.event r ++ others)) at
      ∙ ap (λ (ms : List Message). reading.messages ++ ms) (turn-logged asked kept place.0 place.1 step after whole e state database))
