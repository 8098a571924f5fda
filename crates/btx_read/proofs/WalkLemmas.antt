-- What is made of a database's records, one after another, is what is made of the events that a run reads. What that is, is left open: what is taken of them is
-- one such thing, and the errors that are logged are another.
use Rattle.std.proofs.Common.{◌≡◌, ℕ, zero, suc, ◌-◌, ◌<◌, ◌≤◌, nat_lt, Bool, true, false, not, ◌&&◌, if◌then◌else◌, List, [], ◌∷◌, ◌++◌, length}
use Rattle.std.proofs.Common.{drop, Option, None, Some, is_some, refl, sym, ap, ◌∙◌, append-nil, append_assoc, arith, length-append}
use Rattle.std.specs.Prelude.{option_to_list}
use Rattle.std.specs.Option.{option_map, option_map_or, option_and_then}
use Rattle.std.proofs.lemmas.Bool.Decides.{nat_tests}
use Rattle.std.proofs.Math.Seq.{drop-append_seam}
use Rattle.btx_text.specs.language.Keys.{folded}
use Rattle.btx_text.specs.language.Limits.{greatest_string}
use Rattle.btx_bib.specs.declared.end.End.{End}
use Rattle.btx_bib.specs.declared.end.End.TheVariants as end
use Rattle.btx_bib.specs.declared.grammar.commands.Expected.{Expected as Next}
use Rattle.btx_bib.specs.declared.grammar.commands.Expected.TheVariants.{Item, Closing, Fields}
use Rattle.btx_bib.specs.declared.grammar.slip.SyntaxError.{SyntaxError}
use Rattle.btx_bib.specs.declared.grammar.slip.SyntaxError.TheVariants.{Repeated}
use Rattle.btx_bib.specs.declared.grammar.value_ends.Ends.TheVariants.{Kept, Trimmed}
use Rattle.btx_bib.specs.language.Entries.{Given}
use Rattle.btx_bib.specs.language.Grammar.Fields.{Field as ReadField}
use Rattle.btx_bib.specs.language.Grammar.Items as event
use Rattle.btx_bib.specs.language.Grammar.Items.{Event, Placed, Step, expected_step, events_from}
use Rattle.btx_bib.specs.language.Grammar.Values.{Part}
use Rattle.btx_bib.specs.language.Grammar.ValueTexts.{value_text}
use Rattle.btx_bib.specs.language.Known.{Known, goes_on, has_value, known_after, stored_keys, with_current_stored}
use Rattle.btx_bib.specs.language.Request.{Request}
use Rattle.btx_bib.specs.language.Stored.{entry_with_key, is_wanted}
use Rattle.btx_bib.specs.language.Strings.{string_value, other_value, defined}
use Rattle.btx_bib.specs.refinement.Grammar.Items.{known_step, events_by}
use Rattle.btx_bib.specs.refinement.Grammar.Reads.{left}
use Rattle.btx_bib.proofs.GrammarLemmas.LengthLemmas.{StepsTo, events_from-step, step-leaves}
use Rattle.btx_bib.proofs.GrammarLemmas.ReadingLemmas.{OptionStands, step-stands}
use Rattle.btx_read.specs.declared.content.Content.{Content}
use Rattle.btx_read.specs.declared.content.Content.TheVariants as content
use Rattle.btx_read.specs.declared.content.Content.TheVariants.{Comment, Preamble, Definition, Entry, End as ItemEnd}
use Rattle.btx_read.specs.declared.record.Record.{Record}
use Rattle.btx_read.specs.Records.{content_of, fitting, no_key, nothing_kept, record_of, records_along, records_of, strings_after}
use Rattle.btx_read.specs.Libraries.{FieldRecord, Taken, contents, fields_of, is_repeated, with_fields, taken_by}
use Rattle.btx_read.proofs.FieldFirstLemmas.{Follows, StepFollows, no-field-after, no-field-first, step-follows}

-- ---- texts that are too long

-- a text in front of another makes it no shorter
longer : (one other : ℕ) → one ≤ other → nat_lt greatest_string one ≡ true → nat_lt greatest_string other ≡ true
longer one other le long = by_test (nat_lt greatest_string other) refl where
  by_test : (b : Bool) → nat_lt greatest_string other ≡ b → b ≡ true
  by_test true h = refl
  by_test false h = absurd (grind (arith, nat_tests))

-- a text that isn't too long, appended
fits-joined : (before text : List ℕ) → option_and_then (λ (t : List ℕ). fitting (before ++ t)) (fitting text) ≡ fitting (before ++ text)
fits-joined before text = by_test (nat_lt greatest_string (length text)) refl where
  by_test : (b : Bool) → nat_lt greatest_string (length text) ≡ b
      → option_and_then (λ (t : List ℕ). fitting (before ++ t)) (if b then None else Some text) ≡ fitting (before ++ text)
  by_test true long =
      ap (λ (b : Bool). if b then None else Some (before ++ text))
      (sym (longer (length text) (length (before ++ text)) (omega (arith, length-append before text)) long))
  by_test false short = refl

-- ---- a text after its front

-- what is left of a text once its front is dropped
drop-front : (front rest : List ℕ) → drop (length (front ++ rest) - length rest) (front ++ rest) ≡ rest
drop-front front rest =
    let before : length (front ++ rest) - length rest ≡ length front = omega (arith, length-append front rest) in
    ap (λ (n : ℕ). drop n (front ++ rest)) before ∙ drop-append_seam front rest

-- ---- what is taken, by what is known

-- nowhere is less left to read than between items
item-least : (w : Next) (n : ℕ) → left Item n ≤ left w n
item-least Item n = omega arith
item-least (Closing delimiter) n = omega arith
item-least (Fields delimiter) n = omega arith

-- the same of a text that is divided so
dropped : {whole rest : List ℕ} (front : List ℕ) → whole ≡ front ++ rest → drop (length whole - length rest) whole ≡ rest
dropped {whole} {rest} front split = ap (λ (text : List ℕ). drop (length text - length rest) text) split ∙ drop-front front rest

-- ---- what is quiet

-- the record tells of no error
abbrev pub IsQuiet : Content → Type 0
IsQuiet (content.Wrong slip) = ⊥
IsQuiet _ = Unit {0}

-- the event is no error
abbrev pub IsNoError : Event → Type 0
IsNoError (event.Wrong slip) = ⊥
IsNoError _ = Unit {0}

module _ (wanted : Request) where
  -- the entry that is being read, if there is one, with these fields that are still to come; nothing if the text of one of them that counts is too long
  abbrev pub given_current : Option Given → List FieldRecord → Option (Option Given)
  given_current None fields = Some None
  given_current (Some given) fields = option_map (λ (whole : Given). Some whole) (with_fields wanted given fields)

  -- what is taken where this is known, and this is the entry that is being read, with all of its fields
  abbrev pub taken_with : Known → Option Given → Taken
  taken_with known current = record { strings = known.strings; stored = known.stored ++ option_to_list current; preamble = known.preamble }

  -- the same before these records; nothing once the reading has ended
  abbrev pub taken_of : Known → List Content → Option Taken
  taken_of known next = if goes_on known.ending then option_map (taken_with known) (given_current known.current (fields_of next)) else None

  -- the events that a run reads where this is known
  abbrev pub run_events : Known → Next → List ℕ → List Placed
  run_events known next s = events_from (stored_keys wanted) known next s

  -- the events where no key is stored
  abbrev pub all_events : Next → List ℕ → List Placed
  all_events next s = events_from nothing_kept tt next s

  -- an entry that gets no further field
  pub current-whole : (current : Option Given) → given_current current [] ≡ Some current
  current-whole None = refl
  current-whole (Some given) = refl

  -- what is known where no limit was met
  abbrev pub unlimited : Known → Known
  unlimited known = record known { ending = end.Whole }

  -- ---- records, one after another

  -- `done` is made of what was taken at the end of the records, and `ended` at a limit; `emit` adds what a record tells, where the text after it is given
  module _ (A : Type 0) (ended : A) (done : Taken → A) (emit : List ℕ → Content → A → A) where
    abbrev pub walk : (Taken → List ℕ → A) → List ℕ → Taken → List Record → A
    walk read_on text taken [] = done taken
    walk read_on text taken (one ∷ others) =
        if is_repeated taken.stored one.content then emit (drop one.end text) (content.Wrong Repeated) (read_on taken (drop one.end text))
        else emit (drop one.end text) one.content
        (option_map_or (λ (next : Taken). walk read_on text next others) (taken_by wanted taken one.content (contents others)) ended)

    -- `again` is the same of a whole text, in this number of readings at most, and `last` of the events of a run, where this is known before them
    module _ (again : ℕ → Taken → List ℕ → A) (last : Known → List Placed → A)
        (quiet : (rest : List ℕ) (content : Content) (a : A) → IsQuiet content → emit rest content a ≡ a)
        (again_is : (turns : ℕ) (taken : Taken) (text : List ℕ) → again (suc turns) taken text ≡ walk (again turns) text taken (records_of taken.strings text))
        (last_none : (known : Known) → last (unlimited known) [] ≡ option_map_or done (taken_of (unlimited known) []) ended)
        (last_file : (known : Known) (events : List Placed) → last (record known { ending = end.FileLimit }) events ≡ ended)
        (last_string : (known : Known) (events : List Placed) → last (record known { ending = end.StringLimit }) events ≡ ended)
        (last_next : (known : Known) (e : Event) (rest : List ℕ) (events : List Placed) → IsNoError e
        → last (unlimited known) (record { event = e; rest = rest } ∷ events) ≡ last (known_after wanted (unlimited known) e) events)
        (last_wrong : (known : Known) (slip : SyntaxError) (rest : List ℕ) (events : List Placed)
        → last (unlimited known) (record { event = event.Wrong slip; rest = rest } ∷ events) ≡ emit rest (content.Wrong slip) (last (unlimited known) events)) where
      -- what is made of further records of a text
      abbrev walk_on : ℕ → List ℕ → List Record → Option Taken → A
      walk_on turns whole records before = option_map_or (λ (taken : Taken). walk (again turns) whole taken records) before ended

      -- the records of some events where this is known
      abbrev records_from : Known → List ℕ → List ℕ → List Placed → List Record
      records_from known whole before events = records_along whole known.strings before events

      -- what is made of the records from a place on is what is made of a run's events from there on. `s` is what is left of the text `whole` there
      abbrev pub Along : Known → ℕ → List ℕ → List ℕ → Next → List ℕ → Type 0
      Along known turns whole before next s =
          walk_on turns whole (records_from known whole before (all_events next s)) (taken_of known (contents (records_from known whole before (all_events next s))))
          ≡ last known (run_events known next s)

      -- the same wherever less is left to read than `n`
      abbrev pub Later : ℕ → Type 0
      Later n = (known : Known) (turns : ℕ) (whole front before : List ℕ) (next : Next) (s : List ℕ) → left next (length s) < n → left next (length s) ≤ turns
          → whole ≡ front ++ s → Along known turns whole before next s

      -- ---- one event, while the reading goes on

      module _ (strings : List (List ℕ × List ℕ)) (stored : List Given) (preamble : List ℕ) (turns : ℕ) (whole before : List ℕ) (w : Next) (rest : List ℕ) where
        -- what is known, where no limit was met
        abbrev going : Option Given → Known
        going current = record { strings = strings; stored = stored; current = current; preamble = preamble; ending = end.Whole }

        -- what holds after the event, whatever is known there
        abbrev Rest : Type 0
        Rest = (known : Known) → Along known turns whole rest w rest

        -- the record of an event, and those that follow where these strings are known
        abbrev one_of : Event → Record
        one_of event = record_of whole strings before (record { event = event; rest = rest })

        abbrev others_of : List (List ℕ × List ℕ) → List Record
        others_of known = records_along whole known rest (all_events w rest)

        -- what is made of further records of the text, and of the others after a record that tells of no error
        abbrev made : List Record → Taken → A
        made records taken = walk (again turns) whole taken records

        abbrev passed : Content → List Record → Option Taken → A
        passed content others o =
            option_map_or (λ (taken : Taken). option_map_or (made others) (taken_by wanted taken content (contents others)) ended) o ended

        -- what is made at last where this is known
        abbrev at_last : Known → A
        at_last known = last known (run_events known w rest)

        -- the claim from this event on, which isn't an error
        abbrev Stepped : Option Given → Event → Type 0
        Stepped current event =
            (let others = others_of (strings_after strings event) in
            let content = content_of strings event in
            passed content others (taken_of (going current) (content ∷ contents others)))
            ≡ at_last (known_after wanted (going current) event)

        -- ---- a `@preamble`

        -- what is taken from a preamble of this text after what was taken, and from the others
        abbrev to_preamble : List ℕ → Option (Option Given) → A
        to_preamble text o = passed (Preamble (fitting text)) (others_of strings) (option_map (taken_with (going None)) o)

        preamble-too-long : (text : List ℕ) → nat_lt greatest_string (length (preamble ++ text)) ≡ true → (o : Option (Option Given)) → to_preamble text o ≡ ended
        preamble-too-long text long None = refl
        preamble-too-long text long (Some current) =
            ap (λ (all : Option (List ℕ)). option_map_or (made (others_of strings))
            (option_map (λ (all : List ℕ). record (taken_with (going None) current) { preamble = all }) all) ended)
            (fits-joined preamble text ∙ ap (λ (b : Bool). if b then None else Some (preamble ++ text)) long)

        preamble-fits : (text : List ℕ) → nat_lt greatest_string (length (preamble ++ text)) ≡ false → (o : Option (Option Given))
            → to_preamble text o ≡ option_map_or (made (others_of strings)) (option_map (taken_with (record (going None) { preamble = preamble ++ text })) o) ended
        preamble-fits text short None = refl
        preamble-fits text short (Some current) =
            ap (λ (all : Option (List ℕ)). option_map_or (made (others_of strings))
            (option_map (λ (all : List ℕ). record (taken_with (going None) current) { preamble = all }) all) ended)
            (fits-joined preamble text ∙ ap (λ (b : Bool). if b then None else Some (preamble ++ text)) short)

        preamble-by : (current : Option Given) (text : List ℕ) (long : Bool) → nat_lt greatest_string (length (preamble ++ text)) ≡ long → Rest
            → to_preamble text (given_current current (fields_of (contents (others_of strings))))
            ≡ at_last (if long then record (going current) { ending = end.StringLimit } else record (going current) { preamble = preamble ++ text })
        preamble-by current text true e later =
            preamble-too-long text e (given_current current (fields_of (contents (others_of strings)))) ∙ later (record (going current) { ending = end.StringLimit })
        preamble-by current text false e later =
            preamble-fits text e (given_current current (fields_of (contents (others_of strings)))) ∙ later (record (going current) { preamble = preamble ++ text })

        preamble-step : (current : Option Given) (value : List Part) → Rest → Stepped current (event.Preamble value)
        preamble-step current value later =
            let text = value_text Kept (string_value strings) value in
            preamble-by current text (nat_lt greatest_string (length (preamble ++ text))) refl later

        -- ---- a `@string`

        -- what is taken from a string of this text after what was taken, and from the others
        abbrev to_string : List ℕ → List ℕ → Option (Option Given) → A
        to_string name text o = passed (Definition name (Some text)) (others_of (defined strings name text)) (option_map (taken_with (going None)) o)

        string-fits : (name text : List ℕ) (o : Option (Option Given)) → to_string name text o
            ≡ option_map_or (made (others_of (defined strings name text))) (option_map (taken_with (record (going None) { strings = defined strings name text })) o) ended
        string-fits name text None = refl
        string-fits name text (Some current) = refl

        string-too-long : (name : List ℕ) (o : Option Taken) → passed (Definition name None) (others_of strings) o ≡ ended
        string-too-long name None = refl
        string-too-long name (Some taken) = refl

        definition-by : (current : Option Given) (name text : List ℕ) (long : Bool) → Rest
            → (let others = others_of (if long then strings else defined strings name text) in
            passed (Definition name (if long then None else Some text)) others
            (option_map (taken_with (going current)) (given_current current (fields_of (contents others)))))
            ≡ at_last (if long then record (going current) { ending = end.StringLimit } else record (going current) { strings = defined strings name text })
        definition-by current name text true later =
            string-too-long name (option_map (taken_with (going current)) (given_current current (fields_of (contents (others_of strings)))))
            ∙ later (record (going current) { ending = end.StringLimit })
        definition-by current name text false later =
            string-fits name text (given_current current (fields_of (contents (others_of (defined strings name text)))))
            ∙ later (record (going current) { strings = defined strings name text })

        definition-step : (current : Option Given) (name : List ℕ) (value : List Part) → Rest → Stepped current (event.Definition name value)
        definition-step current name value later =
            let text = value_text Kept (other_value strings name) value in
            definition-by current name text (nat_lt greatest_string (length text)) later

        -- ---- a field

        -- an entry with one more field
        abbrev with_more : Given → List ℕ → List ℕ → Given
        with_more given name text = record given { fields = given.fields ++ record { name = name; value = text } ∷ [] }

        field-by : (given : Given) (field : ReadField) (text : List ℕ) (counts long : Bool) → Rest
            → option_map_or (made (others_of strings))
            (option_map (taken_with (going (Some given))) (option_map (λ (all : Given). Some all)
            (option_and_then (λ (more : Given). with_fields wanted more (fields_of (contents (others_of strings))))
            (if counts then option_map (λ (t : List ℕ). with_more given field.name t) (if long then None else Some text) else Some given)))) ended
            ≡ at_last (if counts then (if long then record (going (Some given)) { ending = end.StringLimit } else record (going (Some given)) {
              current =
                  Some (with_more given field.name text);
            }) else going (Some given))
        field-by given field text true true later = later (record (going (Some given)) { ending = end.StringLimit })
        field-by given field text true false later = later (going (Some (with_more given field.name text)))
        field-by given field text false long later = later (going (Some given))

        field-step : (current : Option Given) (field : ReadField) → Rest → Stepped current (event.FieldOf field)
        field-step None field later = later (going None)
        field-step (Some given) field later =
            let text = value_text Trimmed (string_value strings) field.value in
            field-by given field text (is_some (wanted.field (folded field.name)) && not (has_value wanted given field.name))
            (nat_lt greatest_string (length text)) later

        -- ---- an entry

        -- the stored entries, with the one that is being read
        abbrev stored_by_now : Option Given → List Given
        stored_by_now current = stored ++ option_to_list current

        -- what is taken once the entry that is being read is at its end
        abbrev closed_taken : Option Given → Taken
        closed_taken current = record { strings = strings; stored = stored_by_now current; preamble = preamble }

        -- what is known then
        abbrev closed : Option Given → Known
        closed current = with_current_stored (going current)

        -- an entry without a field
        abbrev begun : List ℕ → List ℕ → Given
        begun kind key = record { kind = kind; key = key; fields = [] }

        stored-entry : (current : Option Given) (kind key : List ℕ) (o : Option Given)
            → option_map_or (made (others_of strings))
            (option_map (λ (given : Given). record (closed_taken current) { stored = stored_by_now current ++ given ∷ [] }) o) ended
            ≡ option_map_or (made (others_of strings)) (option_map (taken_with (closed current)) (option_map (λ (all : Given). Some all) o)) ended
        stored-entry current kind key None = refl
        stored-entry current kind key (Some given) = refl

        wanted-by : (current : Option Given) (kind key : List ℕ) (is : Bool) → Rest
            → option_map_or (made (others_of strings))
            (if is then option_map (λ (given : Given). record (closed_taken current) { stored = stored_by_now current ++ given ∷ [] })
            (with_fields wanted (begun kind key) (fields_of (contents (others_of strings)))) else Some (closed_taken current)) ended
            ≡ at_last (if is then record (closed current) { current = Some (begun kind key) } else closed current)
        wanted-by current kind key true later =
            stored-entry current kind key (with_fields wanted (begun kind key) (fields_of (contents (others_of strings))))
            ∙ later (record (closed current) { current = Some (begun kind key) })
        wanted-by current kind key false later =
            ap (λ (all : List Given). made (others_of strings) (record (closed_taken current) { stored = all }))
            (sym (append-nil (stored_by_now current)))
            ∙ later (closed current)

        -- the text after a repeated key, which is read as a text of its own
        read-again : (n : ℕ) (current : Option Given) → (turns' : ℕ) → left Item (length rest) < n → suc (left Item (length rest)) ≤ turns' → Later n
            → again turns' (closed_taken current) rest ≡ last (going current) (run_events (going current) Item rest)
        unfolding records_of
        read-again n current zero lt le later = absurd (omega arith)
        read-again n current (suc turns') lt le later =
            let records = records_along rest strings rest (all_events Item rest) in
            again_is turns' (closed_taken current) rest
            ∙ ap (λ (o : Option (Option Given)). walk_on turns' rest records (option_map (taken_with (going current)) o))
            (sym (ap (given_current current) (no-field-first rest strings rest rest) ∙ current-whole current))
            ∙ later (going current) turns' rest [] rest Item rest lt (omega arith) refl

        -- what is left of the text after the event's record
        abbrev behind : List ℕ
        behind = drop (length whole - length rest) whole

        -- an error is told where it is met, and it isn't met at a field
        wrong-step : (current : Option Given) (slip : SyntaxError) → behind ≡ rest → fields_of (contents (others_of strings)) ≡ [] → Rest
            → walk_on turns whole (one_of (event.Wrong slip) ∷ others_of strings) (taken_of (going current) (content.Wrong slip ∷ contents (others_of strings)))
            ≡ last (going current) (record { event = event.Wrong slip; rest = rest } ∷ run_events (going current) w rest)
        wrong-step current slip at none later =
            let no_more : given_current current (fields_of (contents (others_of strings))) ≡ Some current = ap (given_current current) none ∙ current-whole current in
            ap (λ (o : Option (Option Given)). walk_on turns whole (one_of (event.Wrong slip) ∷ others_of strings) (option_map (taken_with (going current)) o)) no_more
            ∙ ap (λ (text : List ℕ). emit text (content.Wrong slip) (made (others_of strings) (taken_with (going current) current))) at
            ∙ ap (λ (o : Option (Option Given)). emit rest (content.Wrong slip) (walk_on turns whole (others_of strings) (option_map (taken_with (going current)) o)))
            (sym no_more)
            ∙ ap (emit rest (content.Wrong slip)) (later (going current))
            ∙ sym (last_wrong (going current) slip rest (run_events (going current) w rest))

        repeated-step : (current : Option Given) → behind ≡ rest
            → again turns (closed_taken current) rest ≡ last (going current) (run_events (going current) Item rest)
            → emit behind (content.Wrong Repeated) (again turns (closed_taken current) behind)
            ≡ last (going current) (record { event = event.Wrong Repeated; rest = rest } ∷ run_events (going current) Item rest)
        repeated-step current at read =
            ap (λ (text : List ℕ). emit text (content.Wrong Repeated) (again turns (closed_taken current) text)) at
            ∙ ap (emit rest (content.Wrong Repeated)) read
            ∙ sym (last_wrong (going current) Repeated rest (run_events (going current) Item rest))

        entry-by : (current : Option Given) (kind key : List ℕ) (repeated : Bool) → Rest → behind ≡ rest
            → again turns (closed_taken current) rest ≡ last (going current) (run_events (going current) Item rest)
            → (if repeated then emit behind (content.Wrong Repeated) (again turns (closed_taken current) behind)
            else emit behind (Entry kind key)
            (option_map_or (made (others_of strings)) (taken_by wanted (closed_taken current) (Entry kind key) (contents (others_of strings))) ended))
            ≡ last (going current) (events_by (stored_keys wanted) (events_from (stored_keys wanted)) (going current)
            (Some (let got : Event × Next = if repeated then (event.Wrong Repeated, Item) else (event.Entry kind key, w) in
            record { event = got.0; wanted = got.1; rest = rest })))
        entry-by current kind key true later at read = repeated-step current at read
        entry-by current kind key false later at read =
            quiet behind (Entry kind key) _ tt
            ∙ wanted-by current kind key (is_wanted wanted (stored_by_now current) key) later
            ∙ sym (last_next (going current) (event.Entry kind key) rest _ tt)

        -- a record that tells of no error adds nothing
        unquiet : (says : Content) (made_of : Taken → A) (o : Option Taken) → IsQuiet says
            → option_map_or (λ (taken : Taken). emit behind says (made_of taken)) o ended ≡ option_map_or made_of o ended
        unquiet says made_of None h = refl
        unquiet says made_of (Some taken) h = quiet behind says (made_of taken) h

        -- ---- any event

        -- the claim from any event on
        abbrev Goes : Option Given → Event → Type 0
        Goes current event =
            (let records = records_along whole strings before (events_by nothing_kept (events_from nothing_kept) tt
            (known_step no_key (Some (record { event = event; wanted = w; rest = rest })))) in
            walk_on turns whole records (taken_of (going current) (contents records)))
            ≡ last (going current) (events_by (stored_keys wanted) (events_from (stored_keys wanted)) (going current)
            (known_step ((stored_keys wanted).is_stored (going current)) (Some (record { event = event; wanted = w; rest = rest }))))

        -- the events after this one
        abbrev events_after : Option Given → Event → List Placed
        events_after current e = run_events (known_after wanted (going current) e) w rest

        any-step : (n : ℕ) (front : List ℕ) (current : Option Given) (e : Event) → Follows e w → left w (length rest) < n → n ≤ turns → whole ≡ front ++ rest
            → Later n → Goes current e
        any-step n front current e follows lt le split later = at e follows where
          rest_of : Rest
          rest_of known = later known turns whole front rest w rest lt (omega arith) split

          shorter : left Item (length rest) ≤ left w (length rest)
          shorter = item-least w (length rest)

          quietly : (e : Event) (content : Content) (others : List Record) (o : Option Taken) → IsQuiet content → IsNoError e
              → passed content others o ≡ at_last (known_after wanted (going current) e)
              → option_map_or (λ (taken : Taken). emit behind content (option_map_or (made others) (taken_by wanted taken content (contents others)) ended)) o ended
              ≡ last (going current) (record { event = e; rest = rest } ∷ events_after current e)
          quietly e content others o h k stepped =
              unquiet content (λ (taken : Taken). option_map_or (made others) (taken_by wanted taken content (contents others)) ended) o h
              ∙ stepped
              ∙ sym (last_next (going current) e rest (events_after current e) k)

          at : (e : Event) → Follows e w → Goes current e
          at event.Comment follows = quietly event.Comment Comment (others_of strings) _ tt tt (rest_of (going current))
          at (event.Preamble value) follows = quietly (event.Preamble value) _ (others_of strings) _ tt tt (preamble-step current value rest_of)
          at (event.Definition name value) follows = quietly (event.Definition name value) _ _ _ tt tt (definition-step current name value rest_of)
          at (event.Entry kind key) follows =
              ap (λ (o : Option (Option Given)). walk_on turns whole (one_of (event.Entry kind key) ∷ others_of strings) (option_map (taken_with (going current)) o))
              (current-whole current)
              ∙ entry-by current kind key (is_some (entry_with_key (stored_by_now current) key)) rest_of (dropped front split)
              (read-again n current turns (omega (arith, shorter)) (omega (arith, shorter)) later)
          at (event.FieldOf field) follows = quietly (event.FieldOf field) _ (others_of strings) _ tt tt (field-step current field rest_of)
          at event.ItemEnd follows = quietly event.ItemEnd ItemEnd (others_of strings) _ tt tt (rest_of (going current))
          at (event.Wrong slip) follows = wrong-step current slip (dropped front split) (no-field-after whole strings rest w rest follows) rest_of

      -- ---- all events

      -- the claim from the next step on, if there is one
      abbrev AlongBy : Known → ℕ → List ℕ → List ℕ → Option Step → Type 0
      AlongBy known turns whole before o =
          (let records = records_along whole known.strings before (events_by nothing_kept (events_from nothing_kept) tt (known_step no_key o)) in
          walk_on turns whole records (taken_of known (contents records)))
          ≡ last known (events_by (stored_keys wanted) (events_from (stored_keys wanted)) known (known_step ((stored_keys wanted).is_stored known) o))

      -- one step, where the reading goes on
      along-step : (known : Known) (turns : ℕ) (whole front before : List ℕ) (next : Next) (s : List ℕ) → left next (length s) ≤ turns → whole ≡ front ++ s
          → Later (left next (length s)) → (o : Option Step) → StepsTo (left next (length s)) o → OptionStands next s o → StepFollows o
          → AlongBy (unlimited known) turns whole before o
      along-step known turns whole front before next s le split later None less stands follows = sym (last_none known)
      along-step known turns whole front before next s le split later (Some step) less stands follows =
          any-step known.strings known.stored known.preamble turns whole before step.wanted step.rest (left next (length s)) (front ++ stands.1) known.current
          step.event follows less le
          (split ∙ ap (λ (text : List ℕ). front ++ text) (sym stands.2) ∙ sym (append_assoc front stands.1 step.rest)) later

      -- all that is left of a text
      pub along : (m : ℕ) → Later m
      along zero known turns whole front before next s lt le split = absurd (omega arith)
      along (suc m) known turns whole front before next s lt le split = at (along m) known.ending where
        at : Later m → (e : End) → Along (record known { ending = e }) turns whole before next s
        at later end.Whole =
            let k : Known = unlimited known in
            ap (λ (events : List Placed). let records = records_along whole known.strings before events in walk_on turns whole records (taken_of k (contents records)))
            (events_from-step nothing_kept tt next s)
            ∙ along-step known turns whole front before next s le split
            (λ k' turns' whole' front' before' next' s' lt'. later k' turns' whole' front' before' next' s' (omega arith)) (expected_step next s)
            (step-leaves next s) (step-stands next s) (step-follows next s)
            ∙ sym (ap (last k) (events_from-step (stored_keys wanted) k next s))
        at later end.FileLimit = sym (last_file known (run_events (record known { ending = end.FileLimit }) next s))
        at later end.StringLimit = sym (last_string known (run_events (record known { ending = end.StringLimit }) next s))
