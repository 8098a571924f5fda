-- What a run has taken from records is what it knows of the databases, and the library of both is the same.
use Rattle.std.proofs.Common.{◌≡◌, ℕ, suc, ◌*◌, ◌-◌, nat_lt, Bool, true, false, not, ◌&&◌, if◌then◌else◌, List, [], ◌∷◌, ◌++◌, length}
use Rattle.std.proofs.Common.{drop, fold, Option, None, Some, is_some, Result, Ok, Err, refl, sym, ap, ◌∙◌, append-nil, arith}
use Rattle.std.specs.Option.{option_map, option_map_or, option_and_then, ok_or}
use Rattle.btx_text.specs.language.Keys.{folded}
use Rattle.btx_text.specs.language.Limits.{greatest_string, is_too_long}
use Rattle.btx_bib.specs.declared.end.End.{End}
use Rattle.btx_bib.specs.declared.end.End.TheVariants as end
use Rattle.btx_bib.specs.declared.grammar.commands.Expected.TheVariants.{Item}
use Rattle.btx_bib.specs.declared.grammar.value_ends.Ends.TheVariants.{Kept, Trimmed}
use Rattle.btx_bib.specs.declared.message.Message.{Message}
use Rattle.btx_bib.specs.language.Databases.{library_of, library_by, with_macro}
use Rattle.btx_bib.specs.language.Entries.{Given}
use Rattle.btx_bib.specs.language.Grammar.Fields.{Field as ReadField}
use Rattle.btx_bib.specs.language.Grammar.Items as event
use Rattle.btx_bib.specs.language.Grammar.Items.{Event, Placed}
use Rattle.btx_bib.specs.language.Grammar.ValueTexts.{squeezed, value_text}
use Rattle.btx_bib.specs.language.Known.{Known, goes_on, has_value, after_field, after_event, known_after, with_current_stored}
use Rattle.btx_bib.specs.language.Messages.{Database}
use Rattle.btx_bib.specs.language.Request.{Request}
use Rattle.btx_bib.specs.language.Stored.{is_wanted}
use Rattle.btx_bib.specs.language.Strings.{string_value, other_value, defined}
use Rattle.btx_bib.specs.laws.Databases.{database_events, nothing, with_macros, read_all}
use Rattle.btx_bib.specs.laws.Known.{after_all}
use Rattle.btx_bib.specs.refinement.Grammar.Reads.{left}
use Rattle.btx_bib.proofs.ApartLemmas.{known_one, known_all, known-apart}
use Rattle.btx_read.specs.declared.content.Content.{Content}
use Rattle.btx_read.specs.declared.content.Content.TheVariants.{Definition, Entry}
use Rattle.btx_read.specs.declared.record.Record.{Record}
use Rattle.btx_read.specs.Records.{records_along, records_of}
use Rattle.btx_read.specs.Libraries.{Taken, contents, taken_by, taken_along, taken_within, taken_after, with_database}
use Rattle.btx_read.specs.Libraries.{is_repeated, parts_by, reference_messages_by, taken_from_macros, taken_from_all, library_from_records, reference_messages_from_records}
use Rattle.btx_read.specs.Libraries.{with_macro as taken_with_macro}
use Rattle.btx_read.specs.LibraryLaws.{RecordsMakeLibraries, RecordsMakeReferenceMessages, parts_of}
use Rattle.btx_read.proofs.WalkLemmas.{all_events, along, current-whole, run_events, taken_of, taken_with, unlimited, walk}

-- ---- what is taken from the records of a text

and-some : (o : Option Taken) → o ≡ option_map_or (λ (taken : Taken). Some taken) o None
and-some None = refl
and-some (Some taken) = refl

module _ (wanted : Request) where
  -- what a record tells adds nothing to what is taken
  abbrev nothing_told : List ℕ → Content → Option Taken → Option Taken
  nothing_told rest says taken = taken

  abbrev taken_walk : (Taken → List ℕ → Option Taken) → List ℕ → Taken → List Record → Option Taken
  taken_walk read_on text taken records = walk wanted (Option Taken) None (λ (last : Taken). Some last) nothing_told read_on text taken records

  walk-is : (read_on : Taken → List ℕ → Option Taken) (text : List ℕ) (records : List Record) (taken : Taken)
      → taken_along read_on wanted text taken records ≡ taken_walk read_on text taken records
  walk-is read_on text [] taken = refl
  walk-is read_on text (one ∷ others) taken =
      at (is_repeated taken.stored one.content) (taken_by wanted taken one.content (contents others)) (walk-is read_on text others) where
        at : (b : Bool) (o : Option Taken) → ((next : Taken) → taken_along read_on wanted text next others ≡ taken_walk read_on text next others)
            → (if b then read_on taken (drop one.end text) else option_and_then (λ (next : Taken). taken_along read_on wanted text next others) o)
            ≡ (if b then read_on taken (drop one.end text) else option_map_or (λ (next : Taken). taken_walk read_on text next others) o None)
        at true o later = refl
        at false None later = refl
        at false (Some next) later = later next

  within-is : (turns : ℕ) (taken : Taken) (text : List ℕ)
      → taken_within (suc turns) wanted taken text ≡ taken_walk (taken_within turns wanted) text taken (records_of taken.strings text)
  unfolding taken_within
  within-is turns taken text = walk-is (taken_within turns wanted) text (records_of taken.strings text) taken

  -- nothing is known any more after a limit was met
  ended-file : (known : Known) (events : List Placed) → after_all wanted (record known { ending = end.FileLimit }) events ≡ record known { ending = end.FileLimit }
  ended-file known [] = refl
  ended-file known (placed ∷ events) = ended-file known events

  ended-string : (known : Known) (events : List Placed)
      → after_all wanted (record known { ending = end.StringLimit }) events ≡ record known { ending = end.StringLimit }
  ended-string known [] = refl
  ended-string known (placed ∷ events) = ended-string known events

  -- what is taken where no entry is being read
  abbrev pub taken_at : Known → Taken
  taken_at known = record { strings = known.strings; stored = known.stored; preamble = known.preamble }

  -- what is known where no entry is being read
  abbrev pub between : Known → Known
  between known = record known { current = None }

  -- what is taken from a text is what a run knows after it
  text-taken : (known : Known) (text : List ℕ) → let start = unlimited wanted (between known) in
      taken_after wanted (taken_at known) text ≡ taken_of wanted (after_all wanted start (run_events wanted start Item text)) []
  unfolding records_of
  text-taken known text =
      let start = unlimited wanted (between known) in
      within-is (2 * length text) (taken_at known) text
      ∙ ap (λ (stored : List Given). taken_walk (taken_within (2 * length text) wanted) text (record (taken_at known) { stored = stored })
      (records_along text known.strings text (all_events wanted Item text))) (sym (append-nil known.stored))
      ∙ along wanted (Option Taken) None (λ (last : Taken). Some last) nothing_told (λ turns taken text. taken_within turns wanted taken text)
      (λ known events. taken_of wanted (after_all wanted known events) [])
      (λ rest content a h. refl)
      within-is
      (λ known. and-some (taken_of wanted (unlimited wanted known) []))
      (λ known events. ap (λ (k : Known). taken_of wanted k []) (ended-file known events))
      (λ known events. ap (λ (k : Known). taken_of wanted k []) (ended-string known events))
      (λ known e rest events h. refl)
      (λ known slip rest events. refl)
      (suc (left Item (length text))) start (2 * length text) text [] text Item text (omega arith) (omega arith) refl

  -- ---- in a database the reading ends at a string alone

  -- no file was too long
  abbrev NoLongFile : End → Type 0
  NoLongFile end.Whole = Unit {0}
  NoLongFile end.FileLimit = ⊥
  NoLongFile end.StringLimit = Unit {0}

  no-long-if : (long : Bool) (known next : Known) → NoLongFile next.ending
      → NoLongFile (if long then record known { ending = end.StringLimit } else next).ending
  no-long-if true known next h = tt
  no-long-if false known next h = h

  no-long-field : (known : Known) (field : ReadField) (text : List ℕ) (counts long : Bool) (more : Given) → NoLongFile known.ending
      → NoLongFile (if counts then (if long then record known { ending = end.StringLimit } else record known { current = Some more }) else known).ending
  no-long-field known field text true long more h = no-long-if long known (record known { current = Some more }) h
  no-long-field known field text false long more h = h

  no-long-entry : (is : Bool) (known : Known) (given : Given) → NoLongFile known.ending
      → NoLongFile (if is then record known { current = Some given } else known).ending
  no-long-entry true known given h = h
  no-long-entry false known given h = h

  no-long-current : (known : Known) (current : Option Given) (field : ReadField) → NoLongFile known.ending
      → NoLongFile (after_field wanted known current field).ending
  no-long-current known None field h = h
  no-long-current known (Some given) field h =
      let text = value_text Trimmed (string_value known.strings) field.value in
      no-long-field known field text (is_some (wanted.field (folded field.name)) && not (has_value wanted given field.name)) (nat_lt greatest_string (length text))
      (record given { fields = given.fields ++ record { name = field.name; value = text } ∷ [] }) h

  no-long-event : (known : Known) (e : Event) → NoLongFile known.ending → NoLongFile (after_event wanted known e).ending
  no-long-event known event.Comment h = h
  no-long-event known (event.Preamble value) h =
      let all = known.preamble ++ value_text Kept (string_value known.strings) value in
      no-long-if (nat_lt greatest_string (length all)) known (record known { preamble = all }) h
  no-long-event known (event.Definition name value) h =
      let text = value_text Kept (other_value known.strings name) value in
      no-long-if (nat_lt greatest_string (length text)) known (record known { strings = defined known.strings name text }) h
  no-long-event known (event.Entry kind key) h =
      let before = with_current_stored known in
      no-long-entry (is_wanted wanted before.stored key) before (record { kind = kind; key = key; fields = [] }) h
  no-long-event known (event.FieldOf field) h = no-long-current known known.current field h
  no-long-event known event.ItemEnd h = h
  no-long-event known (event.Wrong slip) h = h

  no-long-after : (b : Bool) (known next : Known) → NoLongFile known.ending → NoLongFile next.ending → NoLongFile (if b then next else known).ending
  no-long-after true known next h k = k
  no-long-after false known next h k = h

  no-long-all : (known : Known) (events : List Placed) → NoLongFile known.ending → NoLongFile (after_all wanted known events).ending
  no-long-all known [] h = h
  no-long-all known (placed ∷ events) h =
      no-long-all (known_after wanted known placed.event) events
      (no-long-after (goes_on known.ending) known (after_event wanted known placed.event) h (no-long-event known placed.event h))

  -- ---- a database

  -- what is taken where no entry is being read, or the limit at which the reading ended
  abbrev pub result_of : Known → Result Taken End
  result_of known = if goes_on known.ending then Ok (taken_at known) else Err known.ending

  -- the end of a database
  result-closed : (last : Known) → NoLongFile last.ending → ok_or (taken_of wanted last []) end.StringLimit ≡ result_of (with_current_stored last)
  result-closed last inner = at last.ending inner where
    at : (e : End) → NoLongFile e → let known : Known = record last { ending = e } in
        ok_or (taken_of wanted known []) end.StringLimit ≡ result_of (with_current_stored known)
    at end.Whole h = ap (λ (o : Option (Option Given)). ok_or (option_map (taken_with wanted (record last { ending = end.Whole })) o) end.StringLimit)
        (current-whole wanted last.current)
    at end.FileLimit h = absurd h
    at end.StringLimit h = refl

  pub one-taken : (known : Known) (database : Database) → with_database wanted (result_of (between known)) database
      ≡ result_of (known_one wanted (between known) database)
  one-taken known database = at known.ending where
    by_length : (long : Bool) → let start : Known = record (between known) { ending = end.Whole } in
        (if long then Err end.FileLimit else ok_or (taken_after wanted (taken_at known) database.text) end.StringLimit)
        ≡ result_of (if long then record start { ending = end.FileLimit } else with_current_stored (after_all wanted start (database_events wanted start database)))
    by_length true = refl
    by_length false =
        let start : Known = record (between known) { ending = end.Whole } in
        let last = after_all wanted start (database_events wanted start database) in
        ap (λ (o : Option Taken). ok_or o end.StringLimit) (text-taken known database.text)
        ∙ result-closed last (no-long-all start (database_events wanted start database) tt)

    at : (e : End) → let start : Known = record (between known) { ending = e } in
        with_database wanted (result_of start) database ≡ result_of (known_one wanted start database)
    at end.Whole = by_length (is_too_long database.text)
    at end.FileLimit = refl
    at end.StringLimit = refl

  -- no entry is being read after a database either
  pub one-between : (known : Known) (database : Database) → known_one wanted (between known) database ≡ between (known_one wanted (between known) database)
  one-between known database = at (goes_on known.ending) (is_too_long database.text) where
    at : (goes long : Bool) → let next : Known = if goes then (if long then record (between known) { ending = end.FileLimit } else with_current_stored
        (after_all wanted (between known) (database_events wanted (between known) database))) else between known in next ≡ between next
    at true true = refl
    at true false = refl
    at false long = refl

  all-taken : (databases : List Database) (known : Known) → fold (with_database wanted) (result_of (between known)) databases
      ≡ result_of (known_all wanted (between known) databases)
  all-taken [] known = refl
  all-taken (database ∷ databases) known =
      let next = known_one wanted (between known) database in
      ap (λ (taken : Result Taken End). fold (with_database wanted) taken databases)
      (one-taken known database ∙ ap result_of (one-between known database))
      ∙ all-taken databases next
      ∙ ap (λ (k : Known). result_of (known_all wanted k databases)) (sym (one-between known database))

  -- ---- macros

  -- what is taken where no limit was met
  abbrev taken_if : Known → Option Taken
  taken_if known = if goes_on known.ending then Some (taken_at known) else None

  macro-taken : (known : Known) (macro : List ℕ × List ℕ) → taken_with_macro wanted (taken_if known) macro ≡ taken_if (with_macro known macro)
  macro-taken known macro = at known.ending (nat_lt greatest_string (length (squeezed macro.1))) where
    at : (e : End) (long : Bool) → let before : Known = record known { ending = e } in
        option_and_then (λ (taken : Taken). option_map (λ (text : List ℕ). record taken { strings = defined taken.strings macro.0 text })
        (if long then None else Some (squeezed macro.1))) (taken_if before)
        ≡ taken_if (if goes_on e then (if long then record before { ending = end.StringLimit } else record
        before { strings = defined known.strings macro.0 (squeezed macro.1) }) else before)
    at end.Whole true = refl
    at end.Whole false = refl
    at end.FileLimit long = refl
    at end.StringLimit long = refl

  macros-taken : (macros : List (List ℕ × List ℕ)) (known : Known) → fold (taken_with_macro wanted) (taken_if known) macros
      ≡ taken_if (fold with_macro known macros)
  macros-taken [] known = refl
  macros-taken (macro ∷ macros) known =
      ap (λ (taken : Option Taken). fold (taken_with_macro wanted) taken macros) (macro-taken known macro) ∙ macros-taken macros (with_macro known macro)

  -- macros end the reading at a string alone, and no entry is being read after them
  abbrev IsStart : Known → Type 0
  IsStart known = NoLongFile known.ending × (known ≡ between known)

  macro-start : (known : Known) (macro : List ℕ × List ℕ) → IsStart known → IsStart (with_macro known macro)
  macro-start known macro start = at (goes_on known.ending) (nat_lt greatest_string (length (squeezed macro.1))) where
    at : (goes long : Bool) → IsStart (if goes then (if long then record known { ending = end.StringLimit } else record
        known { strings = defined known.strings macro.0 (squeezed macro.1) }) else known)
    at true true = (tt, ap (λ (k : Known). record k { ending = end.StringLimit }) start.1)
    at true false = (start.0, ap (λ (k : Known). record k { strings = defined known.strings macro.0 (squeezed macro.1) }) start.1)
    at false long = start

  macros-start : (macros : List (List ℕ × List ℕ)) (known : Known) → IsStart known → IsStart (fold with_macro known macros)
  macros-start [] known start = start
  macros-start (macro ∷ macros) known start = macros-start macros (with_macro known macro) (macro-start known macro start)

  result-if : (known : Known) → NoLongFile known.ending → ok_or (taken_if known) end.StringLimit ≡ result_of known
  result-if known inner = at known.ending inner where
    at : (e : End) → NoLongFile e → ok_or (taken_if (record known { ending = e })) end.StringLimit ≡ result_of (record known { ending = e })
    at end.Whole h = refl
    at end.FileLimit h = absurd h
    at end.StringLimit h = refl

  -- ---- the library

  pub from-macros : (macros : List (List ℕ × List ℕ)) → taken_from_macros wanted macros ≡ result_of (between (with_macros macros))
  from-macros macros =
      let start = macros-start macros nothing (tt, refl) in
      ap (λ (taken : Option Taken). ok_or taken end.StringLimit) (macros-taken macros nothing) ∙ result-if (with_macros macros) start.0 ∙ ap result_of start.1

  -- no entry is being read before the first database
  pub macros-between : (macros : List (List ℕ × List ℕ)) → with_macros macros ≡ between (with_macros macros)
  macros-between macros = let start = macros-start macros nothing (tt, refl) in start.1

  from-all : (macros : List (List ℕ × List ℕ)) (databases : List Database) → taken_from_all wanted macros databases
      ≡ result_of (known_all wanted (with_macros macros) databases)
  from-all macros databases =
      ap (λ (taken : Result Taken End). fold (with_database wanted) taken databases) (from-macros macros)
      ∙ all-taken databases (with_macros macros)
      ∙ ap (λ (k : Known). result_of (known_all wanted k databases)) (sym (macros-between macros))

  library-taken : (known : Known) (messages : List Message) → parts_of (library_by known.ending wanted known messages)
      ≡ parts_by wanted (result_of known)
  library-taken known messages = at known.ending where
    at : (e : End) → parts_of (library_by e wanted (record known { ending = e }) messages) ≡ parts_by wanted (result_of (record known { ending = e }))
    at end.Whole = refl
    at end.FileLimit = refl
    at end.StringLimit = refl

  messages-taken : (known : Known) (messages : List Message) → (library_by known.ending wanted known messages).messages
      ≡ messages ++ reference_messages_by wanted (result_of known)
  messages-taken known messages = at known.ending where
    at : (e : End) → (library_by e wanted (record known { ending = e }) messages).messages
        ≡ messages ++ reference_messages_by wanted (result_of (record known { ending = e }))
    at end.Whole = refl
    at end.FileLimit = sym (append-nil messages)
    at end.StringLimit = sym (append-nil messages)

pub records_make_libraries : RecordsMakeLibraries
unfolding library_of library_from_records
records_make_libraries wanted macros databases =
    let reading = read_all wanted macros databases in
    library-taken wanted reading.known reading.messages
    ∙ ap (λ (known : Known). parts_by wanted (result_of wanted known)) (known-apart wanted macros databases)
    ∙ ap (parts_by wanted) (sym (from-all wanted macros databases))

pub records_make_reference_messages : RecordsMakeReferenceMessages
unfolding library_of reference_messages_from_records
records_make_reference_messages wanted macros databases =
    let reading = read_all wanted macros databases in
    messages-taken wanted reading.known reading.messages
    ∙ ap (λ (known : Known). reading.messages ++ reference_messages_by wanted (result_of wanted known)) (known-apart wanted macros databases)
    ∙ ap (λ (taken : Result Taken End). reading.messages ++ reference_messages_by wanted taken) (sym (from-all wanted macros databases))
