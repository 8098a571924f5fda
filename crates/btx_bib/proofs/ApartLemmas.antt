-- What is known of databases and the messages of them, each by itself: a reading gives both.
use Rattle.std.proofs.Common.{◌≡◌, ℕ, Bool, true, false, not, if◌then◌else◌, List, [], ◌∷◌, ◌++◌, fold, sym, ap, ◌∙◌, append_assoc, append-nil}
use Rattle.btx_bib.specs.declared.end.End.TheVariants as end
use Rattle.btx_bib.specs.declared.message.Message.{Message}
use Rattle.btx_bib.specs.language.Databases.{read_one}
use Rattle.btx_bib.specs.language.Grammar.Items.{Placed}
use Rattle.btx_bib.specs.language.Known.{Known, known_after, with_current_stored, goes_on}
use Rattle.btx_bib.specs.laws.Known.{after_all}
use Rattle.btx_bib.specs.language.Messages.{Database, Reading, read_next}
use Rattle.btx_bib.specs.language.Request.{Request}
use Rattle.btx_text.specs.language.Limits.{is_too_long}
use Rattle.btx_bib.specs.refinement.Messages.{messages_at}
use Rattle.btx_bib.specs.laws.Databases.{database_events, with_macros, read_all}
use Rattle.btx_bib.specs.refinement.Databases.{read_whole}

-- ---- each by itself

-- the messages along some events of a database
abbrev pub messages_along : Request → Database → Known → List Placed → List Message
messages_along wanted database known [] = []
messages_along wanted database known (placed ∷ events) = messages_at wanted database known placed
    ++ messages_along wanted database (known_after wanted known placed.event) events

-- what is known after a database, and its messages
abbrev pub known_one : Request → Known → Database → Known
known_one wanted known database =
    if goes_on known.ending then (if is_too_long database.text then record known { ending = end.FileLimit } else with_current_stored
    (after_all wanted known (database_events wanted known database))) else known

abbrev pub messages_one : Request → Known → Database → List Message
messages_one wanted known database =
    if goes_on known.ending then (if is_too_long database.text then [] else messages_along wanted database known (database_events wanted known database)) else
    []

-- what is known after all databases, and their messages
abbrev pub known_all : Request → Known → List Database → Known
known_all wanted known databases = fold (known_one wanted) known databases

abbrev pub messages_from_all : Request → Known → List Database → List Message
messages_from_all wanted known [] = []
messages_from_all wanted known (database ∷ databases) = messages_one wanted known database ++ messages_from_all wanted (known_one wanted known database)
    databases

-- ---- both at once

module _ (wanted : Request) where
  -- a reading with further messages
  abbrev going_on : Reading → Known → List Message → Reading
  going_on reading known messages = record { known = known; messages = reading.messages ++ messages }

  none-further : (reading : Reading) (known : Known) → record { known = known; messages = reading.messages } ≡ going_on reading known []
  none-further reading known = ap (λ (ms : List Message). record { known = known; messages = ms }) (sym (append-nil reading.messages))

  along-apart : (database : Database) (events : List Placed) (reading : Reading)
      → fold (read_next wanted database) reading events ≡ going_on reading (after_all wanted reading.known events)
      (messages_along wanted database reading.known events)
  along-apart database [] reading = none-further reading reading.known
  along-apart database (placed ∷ events) reading =
      let next = read_next wanted database reading placed in
      along-apart database events next
      ∙ ap (λ (ms : List Message). record { known = after_all wanted next.known events; messages = ms })
      (append_assoc reading.messages (messages_at wanted database reading.known placed) (messages_along wanted database next.known events))

  module _ (database : Database) (reading : Reading) where
    abbrev limited : Known
    limited = record reading.known { ending = end.FileLimit }

    abbrev along : Known
    along = after_all wanted reading.known (database_events wanted reading.known database)

    abbrev logged : List Message
    logged = messages_along wanted database reading.known (database_events wanted reading.known database)

    one-by : (b long : Bool) → (if not b then reading else if long then record reading { known = limited } else read_whole wanted reading database)
        ≡ going_on reading (if b then (if long then limited else with_current_stored along) else reading.known)
        (if b then (if long then [] else logged) else [])
    one-by false long = none-further reading reading.known
    one-by true true = none-further reading limited
    one-by true false = ap (λ (last : Reading). record last { known = with_current_stored last.known })
        (along-apart database (database_events wanted reading.known database) reading)

    one-apart : read_one wanted reading database ≡ going_on reading (known_one wanted reading.known database) (messages_one wanted reading.known database)
    one-apart = one-by (goes_on reading.known.ending) (is_too_long database.text)

  all-apart : (databases : List Database) (reading : Reading) → fold (read_one wanted) reading databases
      ≡ going_on reading (known_all wanted reading.known databases) (messages_from_all wanted reading.known databases)
  all-apart [] reading = none-further reading reading.known
  all-apart (database ∷ databases) reading =
      let known = known_one wanted reading.known database in
      let messages = messages_one wanted reading.known database in
      ap (λ (next : Reading). fold (read_one wanted) next databases) (one-apart database reading)
      ∙ all-apart databases (going_on reading known messages)
      ∙ ap (λ (ms : List Message). record { known = known_all wanted known databases; messages = ms })
      (append_assoc reading.messages messages (messages_from_all wanted known databases))

  -- a reading of all databases
  pub reading-apart : (macros : List (List ℕ × List ℕ)) (databases : List Database)
      → read_all wanted macros databases ≡ record {
        known = known_all wanted (with_macros macros) databases;
        messages =
            messages_from_all wanted (with_macros macros) databases;
      }
  reading-apart macros databases = all-apart databases (record { known = with_macros macros; messages = [] })

  pub known-apart : (macros : List (List ℕ × List ℕ)) (databases : List Database) → (read_all wanted macros databases).known
      ≡ known_all wanted (with_macros macros) databases
  known-apart macros databases = ap (λ (reading : Reading). reading.known) (reading-apart macros databases)
