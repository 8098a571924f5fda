-- The errors that a run logs while it reads databases are made from their records.
use Rattle.std.proofs.Common.{◌≡◌, ℕ, suc, ◌*◌, Bool, true, false, if◌then◌else◌, List, [], ◌∷◌, ◌++◌, length, Option, None, Some, Result, refl, sym, ap, ◌∙◌, drop}
use Rattle.std.proofs.Common.{append-nil, arith}
use Rattle.std.specs.Prelude.{is_some, is_none}
use Rattle.std.specs.List.{filter}
use Rattle.std.specs.Option.{option_map_or}
use Rattle.std.proofs.lemmas.List.Elements.{filter-append}
use Rattle.btx_text.specs.language.Keys.{folded}
use Rattle.btx_text.specs.language.Limits.{is_too_long}
use Rattle.btx_aux.specs.language.Names.{is_same_key}
use Rattle.btx_bib.specs.declared.end.End.{End}
use Rattle.btx_bib.specs.declared.end.End.TheVariants as end
use Rattle.btx_bib.specs.declared.grammar.commands.Expected.TheVariants.{Item}
use Rattle.btx_bib.specs.declared.grammar.slip.SyntaxError.TheVariants.{Repeated}
use Rattle.btx_bib.specs.declared.message.Message.{Message}
use Rattle.btx_bib.specs.declared.message.Message.TheVariants as message
use Rattle.btx_bib.specs.language.Entries.{Given}
use Rattle.btx_bib.specs.language.Grammar.Fields.{Field}
use Rattle.btx_bib.specs.language.Grammar.Items as event
use Rattle.btx_bib.specs.language.Grammar.Items.{Event, Placed}
use Rattle.btx_bib.specs.language.Grammar.Values.{Part, Braced, Quoted, Digits, Named}
use Rattle.btx_bib.specs.language.Known.{Known, has_value, known_after, stored_in}
use Rattle.btx_bib.specs.language.Messages.{Database, Reading, event_messages, field_messages, name_messages, position_at, position_before, value_messages}
use Rattle.btx_bib.specs.language.Request.{Request}
use Rattle.btx_bib.specs.language.Stored.{is_wanted}
use Rattle.btx_bib.specs.language.Strings.{string_value}
use Rattle.btx_bib.specs.laws.Databases.{database_events, with_macros}
use Rattle.btx_bib.specs.refinement.Grammar.Reads.{left}
use Rattle.btx_bib.proofs.ApartLemmas.{known_one, messages_along, messages_from_all, messages_one, reading-apart}
use Rattle.btx_read.specs.declared.content.Content.{Content}
use Rattle.btx_read.specs.declared.content.Content.TheVariants as content
use Rattle.btx_read.specs.declared.record.Record.{Record}
use Rattle.btx_read.specs.Errors.{error_of, errors_along, errors_from_records, errors_of_all, errors_of_one, errors_within, is_wrong}
use Rattle.btx_read.specs.Libraries.{Taken, contents, is_repeated, taken_by, with_database}
use Rattle.btx_read.specs.LibraryLaws.{RecordsMakeErrors}
use Rattle.btx_read.specs.Records.{records_along, records_of}
use Rattle.btx_read.proofs.LibraryLemmas.{between, from-macros, macros-between, one-between, one-taken, result_of, taken_at}
use Rattle.btx_read.proofs.WalkLemmas.{IsNoError, IsQuiet, all_events, along, run_events, taken_of, unlimited, walk}

-- ---- messages that are no errors

-- the errors among messages
abbrev errors_in : List Message → List Message
errors_in messages = filter is_wrong messages

none-if : (b : Bool) (one other : List Message) → errors_in one ≡ [] → errors_in other ≡ [] → errors_in (if b then one else other) ≡ []
none-if true one other h k = h
none-if false one other h k = k

module _ (database : Database) (strings : List (List ℕ × List ℕ)) (own : Option (List ℕ)) where
  none-of-part : (part : Part) → errors_in (name_messages database strings own part) ≡ []
  none-of-part (Braced text) = refl
  none-of-part (Quoted text) = refl
  none-of-part (Digits text) = refl
  none-of-part (Named string) =
      none-if (option_map_or (λ (defined : List ℕ). is_same_key defined string.name) own false)
      (message.OwnString string.name (position_at database string.rest) ∷ []) _ refl
      (none-if (is_none (string_value strings string.name)) (message.UndefinedString string.name (position_at database string.rest) ∷ []) [] refl refl)

  none-of-value : (value : List Part) → errors_in (value_messages database strings own value) ≡ []
  none-of-value [] = refl
  none-of-value (part ∷ value) =
      filter-append is_wrong (name_messages database strings own part) (value_messages database strings own value)
      ∙ ap (λ (messages : List Message). messages ++ errors_in (value_messages database strings own value)) (none-of-part part)
      ∙ none-of-value value

module _ (wanted : Request) (database : Database) where
  none-of-field : (strings : List (List ℕ × List ℕ)) (current : Option Given) (field : Field) (rest : List ℕ)
      → errors_in (field_messages wanted database strings current field rest) ≡ []
  none-of-field strings None field rest = refl
  none-of-field strings (Some given) field rest =
      none-if (has_value wanted given field.name) (message.ExtraField given.key field.name (position_before database rest) ∷ []) _ refl
      (none-if (is_some (wanted.field (folded field.name))) (value_messages database strings None field.value) [] (none-of-value database strings None field.value) refl)

  none-of-event : (known : Known) (e : Event) (rest : List ℕ) → IsNoError e → errors_in (event_messages wanted database known e rest) ≡ []
  none-of-event known event.Comment rest h = refl
  none-of-event known (event.Preamble value) rest h = none-of-value database known.strings None value
  none-of-event known (event.Definition name value) rest h = none-of-value database known.strings (Some name) value
  none-of-event known (event.Entry kind key) rest h =
      none-if (is_wanted wanted (stored_in known) key) _ []
      (none-if (is_none (wanted.kind (folded kind))) (message.UnknownKind key (position_at database rest) ∷ []) [] refl refl) refl
  none-of-event known (event.FieldOf field) rest h = none-of-field known.strings known.current field rest
  none-of-event known event.ItemEnd rest h = refl
  none-of-event known (event.Wrong slip) rest h = absurd h

  -- ---- the errors of a text

  -- the errors that a run logs along some events
  abbrev logged : Known → List Placed → List Message
  logged known events = errors_in (messages_along wanted database known events)

  -- what a record tells is in front of the errors after it
  abbrev told : List ℕ → Content → List Message → List Message
  told rest says errors = error_of database rest says ++ errors

  told-quiet : (rest : List ℕ) (says : Content) (errors : List Message) → IsQuiet says → told rest says errors ≡ errors
  told-quiet rest content.Comment errors h = refl
  told-quiet rest (content.Preamble text) errors h = refl
  told-quiet rest (content.Definition name text) errors h = refl
  told-quiet rest (content.Entry kind key) errors h = refl
  told-quiet rest (content.Field name text) errors h = refl
  told-quiet rest content.End errors h = refl
  told-quiet rest (content.Wrong slip) errors h = absurd h

  none-at-last : (o : Option Taken) → [] ≡ option_map_or {U = List Message} (λ (last : Taken). []) o []
  none-at-last None = refl
  none-at-last (Some taken) = refl

  logged-file : (known : Known) (events : List Placed) → logged (record known { ending = end.FileLimit }) events ≡ []
  logged-file known [] = refl
  logged-file known (placed ∷ events) = logged-file known events

  logged-string : (known : Known) (events : List Placed) → logged (record known { ending = end.StringLimit }) events ≡ []
  logged-string known [] = refl
  logged-string known (placed ∷ events) = logged-string known events

  logged-next : (known : Known) (e : Event) (rest : List ℕ) (events : List Placed) → IsNoError e
      → logged (unlimited wanted known) (record { event = e; rest = rest } ∷ events) ≡ logged (known_after wanted (unlimited wanted known) e) events
  logged-next known e rest events h =
      let others = messages_along wanted database (known_after wanted (unlimited wanted known) e) events in
      filter-append is_wrong (event_messages wanted database (unlimited wanted known) e rest) others
      ∙ ap (λ (messages : List Message). messages ++ errors_in others) (none-of-event (unlimited wanted known) e rest h)

  abbrev error_walk : (Taken → List ℕ → List Message) → List ℕ → Taken → List Record → List Message
  error_walk read_on text taken records = walk wanted (List Message) [] (λ (last : Taken). []) told read_on text taken records

  walk-is : (read_on : Taken → List ℕ → List Message) (text : List ℕ) (records : List Record) (taken : Taken)
      → errors_along read_on wanted database text taken records ≡ error_walk read_on text taken records
  walk-is read_on text [] taken = refl
  walk-is read_on text (one ∷ others) taken =
      at (is_repeated taken.stored one.content) (taken_by wanted taken one.content (contents others)) (walk-is read_on text others) where
        at : (b : Bool) (o : Option Taken) → ((next : Taken) → errors_along read_on wanted database text next others ≡ error_walk read_on text next others)
            → (if b then told (drop one.end text) (content.Wrong Repeated) (read_on taken (drop one.end text)) else told (drop one.end text) one.content
            (option_map_or (λ (next : Taken). errors_along read_on wanted database text next others) o []))
            ≡ (if b then told (drop one.end text) (content.Wrong Repeated) (read_on taken (drop one.end text)) else told (drop one.end text) one.content
            (option_map_or (λ (next : Taken). error_walk read_on text next others) o []))
        at true o later = refl
        at false None later = refl
        at false (Some next) later = ap (told (drop one.end text) one.content) (later next)

  within-is : (turns : ℕ) (taken : Taken) (text : List ℕ)
      → errors_within (suc turns) wanted database taken text ≡ error_walk (errors_within turns wanted database) text taken (records_of taken.strings text)
  unfolding errors_within
  within-is turns taken text = walk-is (errors_within turns wanted database) text (records_of taken.strings text) taken

  text-errors : (known : Known) (text : List ℕ) → let start = unlimited wanted (between wanted known) in
      errors_within (suc (2 * length text)) wanted database (taken_at wanted known) text ≡ logged start (run_events wanted start Item text)
  unfolding records_of
  text-errors known text =
      let start = unlimited wanted (between wanted known) in
      within-is (2 * length text) (taken_at wanted known) text
      ∙ ap (λ (stored : List Given). error_walk (errors_within (2 * length text) wanted database) text (record (taken_at wanted known) { stored = stored })
      (records_along text known.strings text (all_events wanted Item text))) (sym (append-nil known.stored))
      ∙ along wanted (List Message) [] (λ (last : Taken). []) told (λ turns taken text. errors_within turns wanted database taken text) logged
      told-quiet
      within-is
      (λ known. none-at-last (taken_of wanted (unlimited wanted known) []))
      logged-file
      logged-string
      logged-next
      (λ known slip rest events. refl)
      (suc (left Item (length text))) start (2 * length text) text [] text Item text (omega arith) (omega arith) refl

  -- ---- the errors of a database

  one-errors : (known : Known) → errors_of_one wanted (result_of wanted (between wanted known)) database
      ≡ errors_in (messages_one wanted (between wanted known) database)
  one-errors known = at known.ending where
    by_length : (long : Bool) → let start = unlimited wanted (between wanted known) in
        (if long then [] else errors_within (suc (2 * length database.text)) wanted database (taken_at wanted known) database.text)
        ≡ errors_in (if long then [] else messages_along wanted database start (database_events wanted start database))
    by_length true = refl
    by_length false = text-errors known database.text

    at : (e : End) → let start : Known = record (between wanted known) { ending = e } in
        errors_of_one wanted (result_of wanted start) database ≡ errors_in (messages_one wanted start database)
    at end.Whole = by_length (is_too_long database.text)
    at end.FileLimit = refl
    at end.StringLimit = refl

-- ---- the errors of all databases

module _ (wanted : Request) where
  all-errors : (databases : List Database) (known : Known) → errors_of_all wanted (result_of wanted (between wanted known)) databases
      ≡ errors_in (messages_from_all wanted (between wanted known) databases)
  all-errors [] known = refl
  all-errors (database ∷ databases) known =
      let next = known_one wanted (between wanted known) database in
      ap (λ (errors : List Message). errors ++ errors_of_all wanted (with_database wanted (result_of wanted (between wanted known)) database) databases)
      (one-errors wanted database known)
      ∙ ap (λ (taken : Result Taken End). errors_in (messages_one wanted (between wanted known) database) ++ errors_of_all wanted taken databases)
      (one-taken wanted known database ∙ ap (result_of wanted) (one-between wanted known database))
      ∙ ap (λ (errors : List Message). errors_in (messages_one wanted (between wanted known) database) ++ errors)
      (all-errors databases next ∙ ap (λ (k : Known). errors_in (messages_from_all wanted k databases)) (sym (one-between wanted known database)))
      ∙ sym (filter-append is_wrong (messages_one wanted (between wanted known) database) (messages_from_all wanted next databases))

pub records_make_errors : RecordsMakeErrors
unfolding errors_from_records
records_make_errors wanted macros databases =
    ap errors_in (ap (λ (reading : Reading). reading.messages) (reading-apart wanted macros databases)
    ∙ ap (λ (k : Known). messages_from_all wanted k databases) (macros-between wanted macros))
    ∙ sym (all-errors wanted databases (with_macros macros))
    ∙ ap (λ (taken : Result Taken End). errors_of_all wanted taken databases) (sym (from-macros wanted macros))
