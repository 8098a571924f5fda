-- A database that is cut in two where no item is open gives the same.
use Rattle.std.proofs.Common.{◌≡◌, ◌≤◌, ◌+◌, ◌⊎◌, inl, inr, is_some, ℕ, zero, suc, nat_lt, arith, Bool, true, false, if◌then◌else◌, List, [], ◌∷◌, ◌++◌, map}
use Rattle.std.proofs.Common.{fold, length, Option, None, Some, Ok, Err, refl, sym, ap, subst, ◌∙◌, append-nil}
use Rattle.std.specs.Option.{option_map}
use Rattle.std.proofs.lemmas.Bool.Decides.{nat_tests}
use Rattle.std.proofs.lemmas.Grind.{fold-append}
use Rattle.std.proofs.lemmas.List.{length-append}
use Rattle.btx_text.specs.language.Limits.{greatest_file, greatest_string, is_too_long}
use Rattle.btx_bib.specs.declared.end.End.{End}
use Rattle.btx_bib.specs.declared.end.End.TheVariants as end
use Rattle.btx_bib.specs.declared.grammar.commands.DatabaseCommand.{DatabaseCommand}
use Rattle.btx_bib.specs.declared.grammar.commands.DatabaseCommand.TheVariants as command
use Rattle.btx_bib.specs.declared.grammar.commands.Expected.{Expected as Next}
use Rattle.btx_bib.specs.declared.grammar.commands.Expected.TheVariants.{Item, Closing, Fields}
use Rattle.btx_bib.specs.declared.grammar.slip.SyntaxError.TheVariants.{NoEquals, Repeated}
use Rattle.btx_bib.specs.declared.grammar.value_ends.Ends.{Ends}
use Rattle.btx_bib.specs.declared.grammar.value_ends.Ends.TheVariants.{Kept, Trimmed}
use Rattle.btx_bib.specs.declared.message.Message.{Message}
use Rattle.btx_bib.specs.language.Grammar.Tokens.{Parsed, followed_by, name_at, open_at, sign_at, key_at}
use Rattle.btx_bib.specs.language.Grammar.Fields.{Field}
use Rattle.btx_bib.specs.language.Grammar.Items.{Event, Comment, Preamble, Definition, Entry, FieldOf, ItemEnd as Close, Wrong, Placed, Step, StoredKeys, head_of}
use Rattle.btx_bib.specs.language.Grammar.Items.{head_at, command_of, step_by, behind_at, expected_step, is_repeated, next_step, events_within, events_from}
use Rattle.btx_bib.specs.language.Grammar.Values.{Part, Braced, Quoted, Digits, Named, value_at}
use Rattle.btx_bib.specs.language.Grammar.ValueTexts.{text_of_part, shaped, value_text}
use Rattle.btx_bib.specs.language.Request.{Request}
use Rattle.btx_bib.specs.language.Strings.{string_value, other_value, defined}
use Rattle.btx_bib.specs.language.Entries.{Given}
use Rattle.btx_bib.specs.language.Stored.{entry_with_key}
use Rattle.btx_bib.specs.language.Known.{Known, goes_on, stored_in, with_current_stored, if_fits, after_field, after_event, known_after, stored_keys}
use Rattle.btx_bib.specs.laws.Known.{after_all}
use Rattle.btx_bib.specs.language.Messages.{Database}
use Rattle.btx_bib.specs.language.Databases.{library_of, library_by}
use Rattle.btx_bib.specs.laws.Cuts.{IsCutBetweenItems, GivesTheSame, CutGivesTheSame}
use Rattle.btx_bib.proofs.ApartLemmas.{known_one, known_all, known-apart}
use Rattle.btx_bib.proofs.GrammarLemmas.LongerLemmas.{part_on, event_on, placed_on, reading-on}
use Rattle.btx_bib.proofs.GrammarLemmas.ReadingLemmas.{is_reading, one_reading}
use Rattle.btx_bib.specs.refinement.Grammar.ValueTexts.{joined_text, StringValues}
use Rattle.btx_bib.specs.refinement.Known.{keeps_field, after_key, with_field}
use Rattle.btx_bib.specs.refinement.Grammar.Items.{item_end, known_step, events_by}
use Rattle.btx_bib.specs.laws.Databases.{database_events, with_macros, read_all}

-- ---- what is read, without places

-- a part of a value without its place
abbrev pub part_alone : Part → Part
part_alone (Braced text) = Braced text
part_alone (Quoted text) = Quoted text
part_alone (Digits text) = Digits text
part_alone (Named string) = Named (record { name = string.name; rest = [] })

-- what was read, without places
abbrev pub event_alone : Event → Event
event_alone Comment = Comment
event_alone (Preamble value) = Preamble (map part_alone value)
event_alone (Definition name value) = Definition name (map part_alone value)
event_alone (Entry kind key) = Entry kind key
event_alone (FieldOf field) = FieldOf (record { name = field.name; value = map part_alone field.value })
event_alone Close = Close
event_alone (Wrong slip) = Wrong slip

-- what is read in a database, without places
abbrev pub read_in : Request → Known → Database → List Event
read_in wanted known database = map (λ (placed : Placed). event_alone placed.event) (database_events wanted known database)

-- ---- places don't matter to what is known

alone-text : (strings : StringValues) (part : Part) → text_of_part strings (part_alone part) ≡ text_of_part strings part
alone-text strings (Braced text) = refl
alone-text strings (Quoted text) = refl
alone-text strings (Digits text) = refl
alone-text strings (Named string) = refl

alone-joined : (strings : StringValues) (value : List Part) → joined_text strings (map part_alone value) ≡ joined_text strings value
alone-joined strings [] = refl
alone-joined strings (part ∷ value) =
    ap (λ (text : List ℕ). text ++ joined_text strings (map part_alone value)) (alone-text strings part)
    ∙ ap (λ (rest : List ℕ). text_of_part strings part ++ rest) (alone-joined strings value)

alone-value : (ends : Ends) (strings : StringValues) (value : List Part) → value_text ends strings (map part_alone value) ≡ value_text ends strings value
alone-value ends strings value = ap (shaped ends) (alone-joined strings value)

alone-field : (wanted : Request) (known : Known) (o : Option Given) (field : Field)
    → after_field wanted known o (record { name = field.name; value = map part_alone field.value }) ≡ after_field wanted known o field
alone-field wanted known None field = refl
alone-field wanted known (Some given) field =
    ap (λ (text : List ℕ). if keeps_field wanted given field.name then if_fits text known (record known { current = Some (with_field given field.name text) })
    else known)
    (alone-value Trimmed (string_value known.strings) field.value)

alone-event : (wanted : Request) (known : Known) (event : Event) → after_event wanted known (event_alone event) ≡ after_event wanted known event
alone-event wanted known Comment = refl
alone-event wanted known (Preamble value) =
    ap (λ (text : List ℕ). if_fits (known.preamble ++ text) known (record known { preamble = known.preamble ++ text }))
    (alone-value Kept (string_value known.strings) value)
alone-event wanted known (Definition name value) =
    ap (λ (text : List ℕ). if_fits text known (record known { strings = defined known.strings name text }))
    (alone-value Kept (other_value known.strings name) value)
alone-event wanted known (Entry kind key) = refl
alone-event wanted known (FieldOf field) = alone-field wanted known known.current field
alone-event wanted known Close = refl
alone-event wanted known (Wrong slip) = refl

alone-after : (wanted : Request) (known : Known) (event : Event) → known_after wanted known (event_alone event) ≡ known_after wanted known event
alone-after wanted known event = ap (λ (next : Known). if goes_on known.ending then next else known) (alone-event wanted known event)

-- the events without their places
abbrev alone : List Placed → List Event
alone events = map (λ (placed : Placed). event_alone placed.event) events

alone-all : (wanted : Request) (known : Known) (events : List Placed) → fold (known_after wanted) known (alone events) ≡ after_all wanted known events
alone-all wanted known [] = refl
alone-all wanted known (placed ∷ events) =
    ap (λ (next : Known). fold (known_after wanted) next (alone events)) (alone-after wanted known placed.event)
    ∙ alone-all wanted (known_after wanted known placed.event) events

-- ---- an item's events begin with no field

-- no field stands before the first entry
abbrev NoFieldFirst : List Event → Type 0
NoFieldFirst [] = Unit {0}
NoFieldFirst (Comment ∷ events) = NoFieldFirst events
NoFieldFirst (Preamble value ∷ events) = NoFieldFirst events
NoFieldFirst (Definition name value ∷ events) = NoFieldFirst events
NoFieldFirst (Entry kind key ∷ events) = Unit {0}
NoFieldFirst (FieldOf field ∷ events) = ⊥
NoFieldFirst (Close ∷ events) = NoFieldFirst events
NoFieldFirst (Wrong slip ∷ events) = NoFieldFirst events

-- no field is wanted
abbrev WantsNone : Next → Type 0
WantsNone Item = Unit {0}
WantsNone (Closing delimiter) = Unit {0}
WantsNone (Fields delimiter) = ⊥

-- what is read is no field, and only an entry wants one
abbrev BeginsNone : Event → Next → Type 0
BeginsNone Comment next = WantsNone next
BeginsNone (Preamble value) next = WantsNone next
BeginsNone (Definition name value) next = WantsNone next
BeginsNone (Entry kind key) next = Unit {0}
BeginsNone (FieldOf field) next = ⊥
BeginsNone Close next = WantsNone next
BeginsNone (Wrong slip) next = WantsNone next

abbrev ReadNone : Parsed (Event × Next) → Type 0
ReadNone (Ok got) = BeginsNone got.0.0 got.0.1
ReadNone (Err wrong) = Unit {0}

followed-none : {A : Type 0} (read : Parsed A) (next : A → List ℕ → Parsed (Event × Next)) → ((a : A) (rest : List ℕ) → ReadNone (next a rest))
    → ReadNone (followed_by read next)
followed-none (Ok got) next h = h got.0 got.1
followed-none (Err wrong) next h = tt

head-none : (c : DatabaseCommand) (name text : List ℕ) → ReadNone (head_of c name text)
unfolding head_of
head-none command.Comment name text = tt
head-none command.Preamble name text = followed-none (open_at text) _ (λ delimiter behind. followed-none (value_at behind) _ (λ value rest. tt))
head-none command.Definition name text =
    followed-none (open_at text) _ (λ delimiter behind. followed-none (name_at behind) _
    (λ string behind_name. followed-none (sign_at 61 NoEquals behind_name) _
    (λ sign behind_sign. followed-none (value_at behind_sign) _ (λ value rest. tt))))
head-none command.Entry name text = followed-none (open_at text) _ (λ delimiter behind. followed-none (key_at delimiter behind) _ (λ key rest. tt))

head-at-none : (text : List ℕ) → ReadNone (head_at text)
unfolding head_at
head-at-none text = followed-none (name_at text) (λ name rest. head_of (command_of name) name rest) (λ name rest. head-none (command_of name) name rest)

ended-none : (read : Parsed (Unit {0})) → ReadNone (item_end read)
ended-none (Ok got) = tt
ended-none (Err wrong) = tt

abbrev StepNone : Option Step → Type 0
StepNone None = Unit {0}
StepNone (Some step) = BeginsNone step.event step.wanted

step-by-none : (read : Parsed (Event × Next)) → ReadNone read → StepNone (Some (step_by read))
step-by-none (Ok got) h = h
step-by-none (Err wrong) h = tt

step-none : (next : Next) (text : List ℕ) → WantsNone next → StepNone (expected_step next text)
unfolding expected_step
step-none Item text none = by_place (behind_at text) where
  by_place : (o : Option (List ℕ)) → StepNone (option_map (λ (rest : List ℕ). step_by (head_at rest)) o)
  by_place None = tt
  by_place (Some rest) = step-by-none (head_at rest) (head-at-none rest)
step-none (Closing delimiter) text none = step-by-none (item_end _) (ended-none _)
step-none (Fields delimiter) text none = absurd none

known-none : (is_stored : List ℕ → Bool) (o : Option Step) → StepNone o → StepNone (known_step is_stored o)
known-none is_stored None h = tt
known-none is_stored (Some step) h = by_test (is_repeated is_stored step.event) where
  by_test : (b : Bool) → (let got : Event × Next = if b then (Wrong Repeated, Item) else (step.event, step.wanted) in BeginsNone got.0 got.1)
  by_test true = tt
  by_test false = h

-- the events after one that isn't a field
alone-first : (event : Event) (next : Next) (others : List Event) → BeginsNone event next → (WantsNone next → NoFieldFirst others)
    → NoFieldFirst (event_alone event ∷ others)
alone-first Comment next others h rest = rest h
alone-first (Preamble value) next others h rest = rest h
alone-first (Definition name value) next others h rest = rest h
alone-first (Entry kind key) next others h rest = tt
alone-first (FieldOf field) next others h rest = absurd h
alone-first Close next others h rest = rest h
alone-first (Wrong slip) next others h rest = rest h

within-none : {S : Type 0} (kept : StoredKeys S) (turns : ℕ) (state : S) (next : Next) (text : List ℕ) → WantsNone next
    → NoFieldFirst (alone (events_within kept turns state next text))
unfolding events_within
within-none kept zero state next text none = tt
within-none {S} kept (suc turns) state next text none =
    by_step (next_step (kept.is_stored state) next text) (known-none (kept.is_stored state) (expected_step next text) (step-none next text none))
    (within-none kept turns) where
      by_step : (o : Option Step) → StepNone o
          → ((state : S) (next : Next) (text : List ℕ) → WantsNone next → NoFieldFirst (alone (events_within kept turns state next text)))
          → NoFieldFirst (alone (events_by kept (events_within kept turns) state o))
      by_step None h later = tt
      by_step (Some step) h later = alone-first step.event step.wanted _ h (λ none. later (kept.after state step.event) step.wanted step.rest none)

read-none : (wanted : Request) (known : Known) (database : Database) → NoFieldFirst (read_in wanted known database)
unfolding events_from
read-none wanted known database = within-none (stored_keys wanted) _ known Item database.text tt

-- ---- an entry that is at its end

closed-closed : (known : Known) → with_current_stored (with_current_stored known) ≡ with_current_stored known
closed-closed known = ap (λ (stored : List Given). record known { stored = stored; current = None }) (append-nil (stored_in known))

-- after the end of the reading nothing changes
stuck : (wanted : Request) (known : Known) (events : List Event) → goes_on known.ending ≡ false → fold (known_after wanted) known events ≡ known
stuck wanted known [] ended = refl
stuck wanted known (event ∷ events) ended =
    ap (λ (b : Bool). fold (known_after wanted) (if b then after_event wanted known event else known) events) ended ∙ stuck wanted known events ended

closed-fits : (text : List ℕ) (known next : Known) → if_fits text (with_current_stored known) (with_current_stored next)
    ≡ with_current_stored (if_fits text known next)
closed-fits text known next = by_test (nat_lt greatest_string (length text)) where
  by_test : (b : Bool) → (if b then record (with_current_stored known) { ending = end.StringLimit } else with_current_stored next)
      ≡ with_current_stored (if b then record known { ending = end.StringLimit } else next)
  by_test true = refl
  by_test false = refl

abbrev Alike : Request → Known → List Event → Type 0
Alike wanted known events = with_current_stored (fold (known_after wanted) (with_current_stored known) events)
    ≡ with_current_stored (fold (known_after wanted) known events)

-- a known state at which a reading ends
alike-stuck : (wanted : Request) (known : Known) (events : List Event) → goes_on known.ending ≡ false → Alike wanted known events
alike-stuck wanted known events ended = ap with_current_stored (stuck wanted (with_current_stored known) events ended) ∙ closed-closed known
    ∙ sym (ap with_current_stored (stuck wanted known events ended))

-- an event that does the same before and after the end of an entry
alike-next : (wanted : Request) (known : Known) (event : Event) (events : List Event) → goes_on known.ending ≡ true
    → after_event wanted (with_current_stored known) event ≡ with_current_stored (after_event wanted known event)
    → Alike wanted (after_event wanted known event) events → Alike wanted known (event ∷ events)
alike-next wanted known event events on same rest =
    ap (λ (b : Bool). with_current_stored
    (fold (known_after wanted) (if b then after_event wanted (with_current_stored known) event else with_current_stored known) events)) on
    ∙ ap (λ (next : Known). with_current_stored (fold (known_after wanted) next events)) same
    ∙ rest
    ∙ sym (ap (λ (b : Bool). with_current_stored (fold (known_after wanted) (if b then after_event wanted known event else known) events)) on)

alike-entry : (wanted : Request) (known : Known) (kind key : List ℕ) (events : List Event) → goes_on known.ending ≡ true
    → Alike wanted known (Entry kind key ∷ events)
alike-entry wanted known kind key events on =
    ap (λ (b : Bool). with_current_stored
    (fold (known_after wanted) (if b then after_key wanted (with_current_stored (with_current_stored known)) kind key else with_current_stored known)
    events)) on
    ∙ ap (λ (next : Known). with_current_stored (fold (known_after wanted) (after_key wanted next kind key) events)) (closed-closed known)
    ∙ sym (ap (λ (b : Bool). with_current_stored (fold (known_after wanted) (if b then after_key wanted (with_current_stored known) kind key else known)
    events)) on)

alike-first : (wanted : Request) (event : Event) (events : List Event) → NoFieldFirst (event ∷ events)
    → (NoFieldFirst events → (known : Known) → Alike wanted known events)
    → (known : Known) → goes_on known.ending ≡ true → Alike wanted known (event ∷ events)
alike-first wanted Comment events none rest known on = alike-next wanted known Comment events on refl (rest none known)
alike-first wanted (Preamble value) events none rest known on =
    let whole = known.preamble ++ value_text Kept (string_value known.strings) value in
    alike-next wanted known (Preamble value) events on (closed-fits whole known (record known { preamble = whole }))
    (rest none (after_event wanted known (Preamble value)))
alike-first wanted (Definition name value) events none rest known on =
    let text = value_text Kept (other_value known.strings name) value in
    alike-next wanted known (Definition name value) events on (closed-fits text known (record known { strings = defined known.strings name text }))
    (rest none (after_event wanted known (Definition name value)))
alike-first wanted (Entry kind key) events none rest known on = alike-entry wanted known kind key events on
alike-first wanted (FieldOf field) events none rest known on = absurd none
alike-first wanted Close events none rest known on = alike-next wanted known Close events on refl (rest none known)
alike-first wanted (Wrong slip) events none rest known on = alike-next wanted known (Wrong slip) events on refl (rest none known)

alike : (wanted : Request) (events : List Event) → NoFieldFirst events → (known : Known) → Alike wanted known events
alike wanted [] none known = closed-closed known
alike wanted (event ∷ events) none known = by_end (goes_on known.ending) refl (λ none known. alike wanted events none known) where
  by_end : (b : Bool) → goes_on known.ending ≡ b → (NoFieldFirst events → (known : Known) → Alike wanted known events) → Alike wanted known (event ∷ events)
  by_end true on rest = alike-first wanted event events none rest known on
  by_end false over rest = alike-stuck wanted known (event ∷ events) over

-- ---- with more after it

alone-part : (more : List ℕ) (part : Part) → part_alone (part_on more part) ≡ part_alone part
alone-part more (Braced text) = refl
alone-part more (Quoted text) = refl
alone-part more (Digits text) = refl
alone-part more (Named string) = refl

alone-parts : (more : List ℕ) (value : List Part) → map part_alone (map (part_on more) value) ≡ map part_alone value
alone-parts more [] = refl
alone-parts more (part ∷ value) =
    ap (λ (p : Part). p ∷ map part_alone (map (part_on more) value)) (alone-part more part)
    ∙ ap (λ (ps : List Part). part_alone part ∷ ps) (alone-parts more value)

alone-on : (more : List ℕ) (event : Event) → event_alone (event_on more event) ≡ event_alone event
alone-on more Comment = refl
alone-on more (Preamble value) = ap (λ (v : List Part). Preamble v) (alone-parts more value)
alone-on more (Definition name value) = ap (λ (v : List Part). Definition name v) (alone-parts more value)
alone-on more (Entry kind key) = refl
alone-on more (FieldOf field) = ap (λ (v : List Part). FieldOf (record { name = field.name; value = v })) (alone-parts more field.value)
alone-on more Close = refl
alone-on more (Wrong slip) = refl

after-on : (wanted : Request) (more : List ℕ) (known : Known) (event : Event) → known_after wanted known (event_on more event) ≡ known_after wanted known event
after-on wanted more known event = sym (alone-after wanted known (event_on more event)) ∙ ap (known_after wanted known) (alone-on more event)
    ∙ alone-after wanted known event

alone-behind : (more : List ℕ) (events behind : List Placed) → alone (map (placed_on more) events ++ behind) ≡ alone events ++ alone behind
alone-behind more [] behind = refl
alone-behind more (placed ∷ events) behind =
    ap (λ (event : Event). event ∷ alone (map (placed_on more) events ++ behind)) (alone-on more placed.event)
    ∙ ap (λ (others : List Event). event_alone placed.event ∷ others) (alone-behind more events behind)

-- ---- the end of an entry changes nothing of what is read

after-ended : (wanted : Request) (known : Known) (event : Event) → goes_on known.ending ≡ false → known_after wanted known event ≡ known
after-ended wanted known event over = ap (λ (b : Bool). if b then after_event wanted known event else known) over

-- after what is neither an entry nor a field
closed-after : (wanted : Request) (known : Known) (event : Event) → goes_on known.ending ≡ true → after_event wanted (with_current_stored known) event
    ≡ with_current_stored (after_event wanted known event) → known_after wanted (with_current_stored known) event
    ≡ with_current_stored (known_after wanted known event)
closed-after wanted known event on same =
    ap (λ (b : Bool). if b then after_event wanted (with_current_stored known) event else with_current_stored known) on
    ∙ same
    ∙ sym (ap (λ (b : Bool). with_current_stored (if b then after_event wanted known event else known)) on)

closed-entry : (wanted : Request) (known : Known) (kind key : List ℕ) → goes_on known.ending ≡ true
    → known_after wanted (with_current_stored known) (Entry kind key) ≡ known_after wanted known (Entry kind key)
closed-entry wanted known kind key on =
    ap (λ (b : Bool). if b then after_key wanted (with_current_stored (with_current_stored known)) kind key else with_current_stored known) on
    ∙ ap (λ (k : Known). after_key wanted k kind key) (closed-closed known)
    ∙ sym (ap (λ (b : Bool). if b then after_key wanted (with_current_stored known) kind key else known) on)

-- at most `turns` events are the same if the current entry is stored before them
abbrev SameEvents : Request → ℕ → Type 0
SameEvents wanted turns = (known : Known) (next : Next) (text : List ℕ) → WantsNone next ⊎ (goes_on known.ending ≡ false)
    → events_within (stored_keys wanted) turns (with_current_stored known) next text ≡ events_within (stored_keys wanted) turns known next text

events-after : (wanted : Request) (turns : ℕ) (known : Known) (event : Event) (next : Next) (text : List ℕ) → SameEvents wanted turns
    → goes_on known.ending ≡ true → BeginsNone event next
    → events_within (stored_keys wanted) turns (known_after wanted (with_current_stored known) event) next text
    ≡ events_within (stored_keys wanted) turns (known_after wanted known event) next text
events-after wanted turns known (Entry kind key) next text later on none = ap (λ (k : Known). events_within (stored_keys wanted) turns k next text)
    (closed-entry wanted known kind key on)
events-after wanted turns known (FieldOf field) next text later on none = absurd none
events-after wanted turns known Comment next text later on none =
    ap (λ (k : Known). events_within (stored_keys wanted) turns k next text) (closed-after wanted known Comment on refl)
    ∙ later (known_after wanted known Comment) next text (inl none)
events-after wanted turns known (Preamble value) next text later on none =
    let whole = known.preamble ++ value_text Kept (string_value known.strings) value in
    ap (λ (k : Known). events_within (stored_keys wanted) turns k next text)
    (closed-after wanted known (Preamble value) on (closed-fits whole known (record known { preamble = whole })))
    ∙ later (known_after wanted known (Preamble value)) next text (inl none)
events-after wanted turns known (Definition name value) next text later on none =
    let string = value_text Kept (other_value known.strings name) value in
    ap (λ (k : Known). events_within (stored_keys wanted) turns k next text)
    (closed-after wanted known (Definition name value) on (closed-fits string known (record known { strings = defined known.strings name string })))
    ∙ later (known_after wanted known (Definition name value)) next text (inl none)
events-after wanted turns known Close next text later on none =
    ap (λ (k : Known). events_within (stored_keys wanted) turns k next text) (closed-after wanted known Close on refl)
    ∙ later (known_after wanted known Close) next text (inl none)
events-after wanted turns known (Wrong slip) next text later on none =
    ap (λ (k : Known). events_within (stored_keys wanted) turns k next text) (closed-after wanted known (Wrong slip) on refl)
    ∙ later (known_after wanted known (Wrong slip)) next text (inl none)

events-ended : (wanted : Request) (turns : ℕ) (known : Known) (event : Event) (next : Next) (text : List ℕ) → SameEvents wanted turns
    → goes_on known.ending ≡ false
    → events_within (stored_keys wanted) turns (known_after wanted (with_current_stored known) event) next text
    ≡ events_within (stored_keys wanted) turns (known_after wanted known event) next text
events-ended wanted turns known event next text later over =
    ap (λ (k : Known). events_within (stored_keys wanted) turns k next text) (after-ended wanted (with_current_stored known) event over)
    ∙ later known next text (inr over)
    ∙ sym (ap (λ (k : Known). events_within (stored_keys wanted) turns k next text) (after-ended wanted known event over))

events-behind : (wanted : Request) (turns : ℕ) (known : Known) (event : Event) (next : Next) (text : List ℕ) → SameEvents wanted turns → BeginsNone event next
    ⊎ (goes_on known.ending ≡ false)
    → events_within (stored_keys wanted) turns (known_after wanted (with_current_stored known) event) next text
    ≡ events_within (stored_keys wanted) turns (known_after wanted known event) next text
events-behind wanted turns known event next text later (inr over) = events-ended wanted turns known event next text later over
events-behind wanted turns known event next text later (inl none) = by_end (goes_on known.ending) refl where
  by_end : (b : Bool) → goes_on known.ending ≡ b → events_within (stored_keys wanted) turns (known_after wanted (with_current_stored known) event) next text
      ≡ events_within (stored_keys wanted) turns (known_after wanted known event) next text
  by_end true on = events-after wanted turns known event next text later on none
  by_end false over = events-ended wanted turns known event next text later over

events-closed : (wanted : Request) (turns : ℕ) → SameEvents wanted turns
unfolding events_within
events-closed wanted zero known next text h = refl
events-closed wanted (suc turns) known next text h =
    ap (λ (entries : List Given). events_by (stored_keys wanted) (events_within (stored_keys wanted) turns) (with_current_stored known)
    (next_step (λ key. is_some (entry_with_key entries key)) next text)) (append-nil (stored_in known))
    ∙ by_step (next_step ((stored_keys wanted).is_stored known) next text) (steps h) (events-closed wanted turns) where
      steps : WantsNone next ⊎ (goes_on known.ending ≡ false) → StepNone (next_step ((stored_keys wanted).is_stored known) next text)
          ⊎ (goes_on known.ending ≡ false)
      steps (inl none) = inl (known-none ((stored_keys wanted).is_stored known) (expected_step next text) (step-none next text none))
      steps (inr over) = inr over

      by_step : (o : Option Step) → StepNone o ⊎ (goes_on known.ending ≡ false) → SameEvents wanted turns
          → events_by (stored_keys wanted) (events_within (stored_keys wanted) turns) (with_current_stored known) o
          ≡ events_by (stored_keys wanted) (events_within (stored_keys wanted) turns) known o
      by_step None none later = refl
      by_step (Some step) none later =
          ap (λ (events : List Placed). record { event = step.event; rest = step.rest } ∷ events)
          (events-behind wanted turns known step.event step.wanted step.rest later none)

events_from-closed : (wanted : Request) (known : Known) (text : List ℕ) → events_from (stored_keys wanted) (with_current_stored known) Item text
    ≡ events_from (stored_keys wanted) known Item text
unfolding events_from
events_from-closed wanted known text = events-closed wanted _ known Item text (inl tt)

-- ---- one database or two

is-read : (wanted : Request) (known : Known) (database : Database) → goes_on known.ending ≡ true → is_too_long database.text ≡ false
    → known_one wanted known database ≡ with_current_stored (fold (known_after wanted) known (read_in wanted known database))
is-read wanted known database on short =
    ap (λ (b : Bool). if b then (if is_too_long database.text then record known { ending = end.FileLimit } else with_current_stored
    (after_all wanted known (database_events wanted known database))) else known) on
    ∙ ap (λ (b : Bool). if b then record known { ending = end.FileLimit } else with_current_stored
    (after_all wanted known (database_events wanted known database))) short
    ∙ ap with_current_stored (sym (alone-all wanted known (database_events wanted known database)))

is-ended : (wanted : Request) (known : Known) (database : Database) → goes_on known.ending ≡ false → known_one wanted known database ≡ known
is-ended wanted known database ended =
    ap (λ (b : Bool). if b then (if is_too_long database.text then record known { ending = end.FileLimit } else with_current_stored
    (after_all wanted known (database_events wanted known database))) else known) ended

-- a second database, after what a first one left
then-read : (wanted : Request) (before : Known) (second : Database) → is_too_long second.text ≡ false
    → known_one wanted (with_current_stored before) second
    ≡ with_current_stored (fold (known_after wanted) before (read_in wanted (with_current_stored before) second))
then-read wanted before second short = by_end (goes_on before.ending) refl where
  by_end : (b : Bool) → goes_on before.ending ≡ b → known_one wanted (with_current_stored before) second
      ≡ with_current_stored (fold (known_after wanted) before (read_in wanted (with_current_stored before) second))
  by_end true on = is-read wanted (with_current_stored before) second on short ∙ alike wanted (read_in wanted (with_current_stored before) second)
      (read-none wanted (with_current_stored before) second) before
  by_end false over = is-ended wanted (with_current_stored before) second over
      ∙ sym (ap with_current_stored (stuck wanted before (read_in wanted (with_current_stored before) second) over))

shorter : (part whole : ℕ) → part ≤ whole → nat_lt greatest_file whole ≡ false → nat_lt greatest_file part ≡ false
shorter part whole le short = by_test (nat_lt greatest_file part) refl where
  by_test : (b : Bool) → nat_lt greatest_file part ≡ b → b ≡ false
  by_test false h = refl
  by_test true h = absurd (grind (arith, nat_tests))

-- what is read in the whole is what is read in the first and then what is read in the second
cut-is-read : (wanted : Request) (known : Known) (whole first second : Database) → IsCutBetweenItems wanted known whole first second
    → goes_on known.ending ≡ true → is_too_long first.text ≡ false
    → read_in wanted known whole ≡ read_in wanted known first ++ read_in wanted (known_one wanted known first) second
cut-is-read wanted known whole first second cut on short =
    let events = database_events wanted known first in
    let middle = after_all wanted known events in
    let behind = events_from (stored_keys wanted) middle Item second.text in
    let reading = reading-on second.text (stored_keys wanted) (after-on wanted second.text) events behind known Item first.text cut.1
    (is_reading (stored_keys wanted) known Item first.text) (is_reading (stored_keys wanted) middle Item second.text) in
    let is = one_reading (stored_keys wanted) (map (placed_on second.text) events ++ behind) known Item (first.text ++ second.text) reading in
    let left : known_one wanted known first ≡ with_current_stored middle = is-read wanted known first on short
    ∙ ap with_current_stored (alone-all wanted known events) in
    ap (λ (text : List ℕ). alone (events_from (stored_keys wanted) known Item text)) cut.0
    ∙ ap alone (sym is)
    ∙ alone-behind second.text events behind
    ∙ ap (λ (others : List Placed). alone events ++ alone others) (sym (events_from-closed wanted middle second.text))
    ∙ ap (λ (k : Known). alone events ++ read_in wanted k second) (sym left)

cut-reads : (wanted : Request) (known : Known) (whole first second : Database) → IsCutBetweenItems wanted known whole first second
    → is_too_long whole.text ≡ false
    → known_one wanted (known_one wanted known first) second ≡ known_one wanted known whole
cut-reads wanted known whole first second cut short = by_end (goes_on known.ending) refl where
  long : length whole.text ≡ length first.text + length second.text
  long = ap (λ (text : List ℕ). length text) cut.0 ∙ length-append first.text second.text

  first-short : is_too_long first.text ≡ false
  first-short = shorter (length first.text) (length whole.text) (omega (arith, long)) short

  second-short : is_too_long second.text ≡ false
  second-short = shorter (length second.text) (length whole.text) (omega (arith, long)) short

  by_end : (b : Bool) → goes_on known.ending ≡ b → known_one wanted (known_one wanted known first) second ≡ known_one wanted known whole
  by_end false over = ap (λ (k : Known). known_one wanted k second) (is-ended wanted known first over) ∙ is-ended wanted known second over
      ∙ sym (is-ended wanted known whole over)
  by_end true on =
      let before = fold (known_after wanted) known (read_in wanted known first) in
      let left : known_one wanted known first ≡ with_current_stored before = is-read wanted known first on first-short in
      ap (λ (k : Known). known_one wanted k second) left
      ∙ then-read wanted before second second-short
      ∙ ap (λ (k : Known). with_current_stored (fold (known_after wanted) before (read_in wanted k second))) (sym left)
      ∙ ap with_current_stored (sym (fold-append (known_after wanted) known (read_in wanted known first)
      (read_in wanted (known_one wanted known first) second)))
      ∙ ap (λ (events : List Event). with_current_stored (fold (known_after wanted) known events))
      (sym (cut-is-read wanted known whole first second cut on first-short))
      ∙ sym (is-read wanted known whole on short)

-- ---- the library

same-by : (ending : End) (wanted : Request) (known : Known) (one other : List Message)
    → GivesTheSame (library_by ending wanted known one) (library_by ending wanted known other)
same-by end.Whole wanted known one other = (refl, refl, refl)
same-by end.FileLimit wanted known one other = (refl, refl, refl)
same-by end.StringLimit wanted known one other = (refl, refl, refl)

all-append : (wanted : Request) (known : Known) (xs ys : List Database) → known_all wanted known (xs ++ ys) ≡ known_all wanted (known_all wanted known xs) ys
all-append wanted known [] ys = refl
all-append wanted known (x ∷ xs) ys = all-append wanted (known_one wanted known x) xs ys

pub cut-gives-the-same : CutGivesTheSame
unfolding library_of
cut-gives-the-same wanted macros before after whole first second cut short =
    let start = with_macros macros in
    let parts = read_all wanted macros (before ++ first ∷ second ∷ after) in
    let one = read_all wanted macros (before ++ whole ∷ after) in
    let known = known_all wanted start before in
    let cut_there : IsCutBetweenItems wanted known whole first second = subst (λ (k : Known). IsCutBetweenItems wanted k whole first second)
    (known-apart wanted macros before) cut in
    let same : parts.known ≡ one.known =
    known-apart wanted macros (before ++ first ∷ second ∷ after)
    ∙ all-append wanted start before (first ∷ second ∷ after)
    ∙ ap (λ (k : Known). known_all wanted k after) (cut-reads wanted known whole first second cut_there short)
    ∙ sym (all-append wanted start before (whole ∷ after))
    ∙ sym (known-apart wanted macros (before ++ whole ∷ after)) in
    subst (λ (k : Known). GivesTheSame (library_by parts.known.ending wanted parts.known parts.messages) (library_by k.ending wanted k one.messages))
    same (same-by parts.known.ending wanted parts.known parts.messages one.messages)
