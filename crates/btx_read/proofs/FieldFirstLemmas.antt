-- A text that is read from between items on has no field before its first entry.
use Rattle.std.proofs.Common.{◌≡◌, ℕ, zero, suc, ◌<◌, List, [], length, Option, None, Some, Ok, Err, refl, ap, ◌∙◌, arith}
use Rattle.std.specs.Option.{option_map}
use Rattle.btx_bib.specs.declared.grammar.byte_sets.ByteSet.TheVariants.{Gap}
use Rattle.btx_bib.specs.declared.grammar.byte_sets.Delimiter.{Delimiter}
use Rattle.btx_bib.specs.declared.grammar.commands.DatabaseCommand.{DatabaseCommand}
use Rattle.btx_bib.specs.declared.grammar.commands.DatabaseCommand.TheVariants as command
use Rattle.btx_bib.specs.declared.grammar.commands.Expected.{Expected as Next}
use Rattle.btx_bib.specs.declared.grammar.commands.Expected.TheVariants.{Item, Closing, Fields}
use Rattle.btx_bib.specs.declared.grammar.slip.SyntaxError.TheVariants.{NoEquals}
use Rattle.btx_bib.specs.language.Grammar.ByteSets.{past}
use Rattle.btx_bib.specs.language.Grammar.Fields.{Field, more_in}
use Rattle.btx_bib.specs.language.Grammar.Items.{Event, Comment, Preamble, Definition, Entry, FieldOf, ItemEnd as Close, Wrong, Placed, Step, head_of}
use Rattle.btx_bib.specs.language.Grammar.Items.{head_at, command_of, field_event, step_by, behind_at, expected_step, events_from}
use Rattle.btx_bib.specs.language.Grammar.Tokens.{Parsed, followed_by, name_at, open_at, sign_at, key_at}
use Rattle.btx_bib.specs.language.Grammar.Values.{value_at}
use Rattle.btx_bib.specs.refinement.Grammar.Items.{item_end, known_step, events_by}
use Rattle.btx_bib.specs.refinement.Grammar.Reads.{left}
use Rattle.btx_bib.proofs.GrammarLemmas.LengthLemmas.{StepsTo, events_from-step, step-leaves}
use Rattle.btx_read.specs.Records.{no_key, nothing_kept, records_along}
use Rattle.btx_read.specs.Libraries.{FieldRecord, contents, fields_of}

-- ---- what is read first is no field

-- no field is wanted
abbrev pub WantsNone : Next → Type 0
WantsNone Item = Unit {0}
WantsNone (Closing delimiter) = Unit {0}
WantsNone (Fields delimiter) = ⊥

-- what is read is no field, and only an entry wants one
abbrev BeginsNone : Event → Next → Type 0
BeginsNone Comment next = WantsNone next
BeginsNone (Preamble value) next = WantsNone next
BeginsNone (Definition name value) next = WantsNone next
BeginsNone (Entry kind key) next = Unit {0}
BeginsNone (FieldOf field) next = ⊥
BeginsNone Close next = WantsNone next
BeginsNone (Wrong slip) next = WantsNone next

abbrev ReadNone : Parsed (Event × Next) → Type 0
ReadNone (Ok got) = BeginsNone got.0.0 got.0.1
ReadNone (Err wrong) = Unit {0}

followed-none : {A : Type 0} (read : Parsed A) (next : A → List ℕ → Parsed (Event × Next)) → ((a : A) (rest : List ℕ) → ReadNone (next a rest))
    → ReadNone (followed_by read next)
followed-none (Ok got) next h = h got.0 got.1
followed-none (Err wrong) next h = tt

head-none : (c : DatabaseCommand) (name text : List ℕ) → ReadNone (head_of c name text)
unfolding head_of
head-none command.Comment name text = tt
head-none command.Preamble name text = followed-none (open_at text) _ (λ delimiter behind. followed-none (value_at behind) _ (λ value rest. tt))
head-none command.Definition name text =
    followed-none (open_at text) _ (λ delimiter behind. followed-none (name_at behind) _
    (λ string behind_name. followed-none (sign_at 61 NoEquals behind_name) _
    (λ sign behind_sign. followed-none (value_at behind_sign) _ (λ value rest. tt))))
head-none command.Entry name text = followed-none (open_at text) _ (λ delimiter behind. followed-none (key_at delimiter behind) _ (λ key rest. tt))

head-at-none : (text : List ℕ) → ReadNone (head_at text)
unfolding head_at
head-at-none text = followed-none (name_at text) (λ name rest. head_of (command_of name) name rest) (λ name rest. head-none (command_of name) name rest)

ended-none : (read : Parsed (Unit {0})) → ReadNone (item_end read)
ended-none (Ok got) = tt
ended-none (Err wrong) = tt

abbrev StepNone : Option Step → Type 0
StepNone None = Unit {0}
StepNone (Some step) = BeginsNone step.event step.wanted

step-by-none : (read : Parsed (Event × Next)) → ReadNone read → StepNone (Some (step_by read))
step-by-none (Ok got) h = h
step-by-none (Err wrong) h = tt

step-none : (next : Next) (text : List ℕ) → WantsNone next → StepNone (expected_step next text)
unfolding expected_step
step-none Item text none = by_place (behind_at text) where
  by_place : (o : Option (List ℕ)) → StepNone (option_map (λ (rest : List ℕ). step_by (head_at rest)) o)
  by_place None = tt
  by_place (Some rest) = step-by-none (head_at rest) (head-at-none rest)
step-none (Closing delimiter) text none = step-by-none (item_end _) (ended-none _)
step-none (Fields delimiter) text none = absurd none

-- after anything but an entry's beginning and a field no field is wanted
abbrev pub Follows : Event → Next → Type 0
Follows Comment next = WantsNone next
Follows (Preamble value) next = WantsNone next
Follows (Definition name value) next = WantsNone next
Follows (Entry kind key) next = Unit {0}
Follows (FieldOf field) next = Unit {0}
Follows Close next = WantsNone next
Follows (Wrong slip) next = WantsNone next

abbrev pub StepFollows : Option Step → Type 0
StepFollows None = Unit {0}
StepFollows (Some step) = Follows step.event step.wanted

none-follows : (event : Event) (next : Next) → BeginsNone event next → Follows event next
none-follows Comment next h = h
none-follows (Preamble value) next h = h
none-follows (Definition name value) next h = h
none-follows (Entry kind key) next h = tt
none-follows (FieldOf field) next h = tt
none-follows Close next h = h
none-follows (Wrong slip) next h = h

step-none-follows : (o : Option Step) → StepNone o → StepFollows o
step-none-follows None h = tt
step-none-follows (Some step) h = none-follows step.event step.wanted h

field-follows : (delimiter : Delimiter) (read : Parsed (Option Field)) → StepFollows (Some (step_by (field_event delimiter read)))
field-follows delimiter (Ok (None, rest)) = tt
field-follows delimiter (Ok (Some field, rest)) = tt
field-follows delimiter (Err wrong) = tt

pub step-follows : (next : Next) (text : List ℕ) → StepFollows (expected_step next text)
unfolding expected_step
step-follows Item text = step-none-follows (expected_step Item text) (step-none Item text tt)
step-follows (Closing delimiter) text = step-none-follows (expected_step (Closing delimiter) text) (step-none (Closing delimiter) text tt)
step-follows (Fields delimiter) text = field-follows delimiter (more_in delimiter (past Gap text))

-- ---- so no record is a field before the first entry

module _ (whole : List ℕ) where
  -- the fields before the first entry, from a place on
  abbrev fields_from : List (List ℕ × List ℕ) → List ℕ → List Placed → List FieldRecord
  fields_from strings before events = fields_of (contents (records_along whole strings before events))

  abbrev Later : ℕ → Type 0
  Later n = (strings : List (List ℕ × List ℕ)) (before : List ℕ) (next : Next) (s : List ℕ) → WantsNone next → left next (length s) < n
      → fields_from strings before (events_from nothing_kept tt next s) ≡ []

  event-none : (n : ℕ) (strings : List (List ℕ × List ℕ)) (before : List ℕ) (event : Event) (next : Next) (rest : List ℕ) → BeginsNone event next
      → left next (length rest) < n → Later n
      → fields_from strings before (events_by nothing_kept (events_from nothing_kept) tt (known_step no_key (Some (record { event = event; wanted = next; rest = rest })))) ≡ []
  event-none n strings before Comment next rest none lt later = later _ rest next rest none lt
  event-none n strings before (Preamble value) next rest none lt later = later _ rest next rest none lt
  event-none n strings before (Definition name value) next rest none lt later = later _ rest next rest none lt
  event-none n strings before (Entry kind key) next rest none lt later = refl
  event-none n strings before (FieldOf field) next rest none lt later = absurd none
  event-none n strings before Close next rest none lt later = later _ rest next rest none lt
  event-none n strings before (Wrong slip) next rest none lt later = later _ rest next rest none lt

  step-fields : (n : ℕ) (strings : List (List ℕ × List ℕ)) (before : List ℕ) (o : Option Step) → StepNone o → StepsTo n o → Later n
      → fields_from strings before (events_by nothing_kept (events_from nothing_kept) tt (known_step no_key o)) ≡ []
  step-fields n strings before None none lt later = refl
  step-fields n strings before (Some step) none lt later = event-none n strings before step.event step.wanted step.rest none lt later

  none-within : (n : ℕ) → Later n
  none-within zero strings before next s none lt = absurd (omega arith)
  none-within (suc n) strings before next s none lt =
      ap (fields_from strings before) (events_from-step nothing_kept tt next s)
      ∙ step-fields (left next (length s)) strings before (expected_step next s) (step-none next s none) (step-leaves next s)
      (λ strings' before' next' s' none' lt'. none-within n strings' before' next' s' none' (omega arith))

  pub no-field-after : (strings : List (List ℕ × List ℕ)) (before : List ℕ) (next : Next) (s : List ℕ) → WantsNone next
      → fields_from strings before (events_from nothing_kept tt next s) ≡ []
  no-field-after strings before next s none = none-within (suc (left next (length s))) strings before next s none (omega arith)

  pub no-field-first : (strings : List (List ℕ × List ℕ)) (before s : List ℕ) → fields_from strings before (events_from nothing_kept tt Item s) ≡ []
  no-field-first strings before s = no-field-after strings before Item s tt
