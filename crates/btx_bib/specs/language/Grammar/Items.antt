-- Items as they are read: what follows an `@`, then the fields of an entry one by one, and the end.
use Rattle.std.specs.Prelude.{ℕ, Bool, false, zero, suc, ◌+◌, ◌*◌, ◌==◌, List, [], ◌∷◌, length, Option, None, Some, Ok, Err, if◌then◌else◌, codes}
use Rattle.std.specs.Str.{bytes_eq, byte}
use Rattle.std.specs.Option.{option_map, option_map_or}
use Rattle.btx_text.specs.language.Keys.{folded}
use Rattle.btx_bib.specs.declared.grammar.byte_sets.Delimiter.{Delimiter}
use Rattle.btx_bib.specs.declared.grammar.commands.DatabaseCommand.{DatabaseCommand}
use Rattle.btx_bib.specs.declared.grammar.commands.DatabaseCommand.TheVariants as command
use Rattle.btx_bib.specs.declared.grammar.commands.Expected.{Expected}
use Rattle.btx_bib.specs.declared.grammar.commands.Expected.TheVariants.{Item, Closing, Fields}
use Rattle.btx_bib.specs.declared.grammar.slip.SyntaxError.{SyntaxError}
use Rattle.btx_bib.specs.declared.grammar.slip.SyntaxError.TheVariants.{NoEquals, NoClosing, Repeated}
use Rattle.btx_bib.specs.language.Grammar.Tokens.{Parsed, followed_by, name_at, open_at, sign_at, key_at, closing_delimiter}
use Rattle.btx_bib.specs.language.Grammar.Values.{Part, value_at}
use Rattle.btx_bib.specs.language.Grammar.Fields.{Field, more_in}
use Rattle.btx_bib.specs.declared.grammar.byte_sets.ByteSet.TheVariants.{Gap}
use Rattle.btx_bib.specs.language.Grammar.ByteSets.{past}

-- what is read: an `@comment`, a `@preamble`'s value, a `@string`'s name and value, an entry's type and key, a field, the end of
-- the item, or what is wrong
pub data Event : Type 0 where
  Comment : Event
  Preamble : (value : List Part) → Event
  Definition : (name : List ℕ) (value : List Part) → Event
  Entry : (kind key : List ℕ) → Event
  FieldOf : (field : Field) → Event
  ItemEnd : Event
  Wrong : (slip : SyntaxError) → Event

-- the command of a name, whose case is ignored: any other name is an entry's type
unfoldable pub command_of : List ℕ → DatabaseCommand
command_of name =
    if bytes_eq (folded name) (codes "comment") then command.Comment
    else if bytes_eq (folded name) (codes "preamble") then command.Preamble
    else if bytes_eq (folded name) (codes "string") then command.Definition else command.Entry

-- reads the first part of an item, given its command: the event, and what is expected next
unfoldable pub head_of : DatabaseCommand → List ℕ → List ℕ → Parsed (Event × Expected)
head_of command.Comment name text = Ok ((Comment, Item), text)
head_of command.Preamble name text =
    followed_by (open_at text) (λ delimiter behind_open.
    followed_by (value_at behind_open) (λ value rest. Ok ((Preamble value, Closing delimiter), rest)))
head_of command.Definition name text =
    followed_by (open_at text) (λ delimiter behind_open.
    followed_by (name_at behind_open) (λ string behind_name.
    followed_by (sign_at (byte "=") NoEquals behind_name) (λ sign behind_sign.
    followed_by (value_at behind_sign) (λ value rest. Ok ((Definition string value, Closing delimiter), rest)))))
head_of command.Entry name text =
    followed_by (open_at text) (λ delimiter behind_open.
    followed_by (key_at delimiter behind_open) (λ key rest. Ok ((Entry name key, Fields delimiter), rest)))

-- what follows an `@`, read up to the first event of the item: the event, and what is wanted next; or what is wrong
unfoldable pub head_at : List ℕ → Parsed (Event × Expected)
head_at text = followed_by (name_at text) (λ name rest. head_of (command_of name) name rest)

-- a field as an event, after which the entry goes on; or the end of the entry, after which an item is expected
abbrev pub field_event : Delimiter → Parsed (Option Field) → Parsed (Event × Expected)
field_event delimiter (Ok (None, rest)) = Ok ((ItemEnd, Item), rest)
field_event delimiter (Ok (Some field, rest)) = Ok ((FieldOf field, Fields delimiter), rest)
field_event delimiter (Err wrong) = Err wrong

-- what is read at a place, what is wanted next, and the text from there on
pub record Step : Type 0 where
  pub event : Event
  pub wanted : Expected
  pub rest : List ℕ

-- a reading as one step; after an error an item is expected
abbrev pub step_by : Parsed (Event × Expected) → Step
step_by (Ok got) = record { event = got.0.0; wanted = got.0.1; rest = got.1 }
step_by (Err wrong) = record { event = Wrong wrong.0; wanted = Item; rest = wrong.1 }

-- the text after the first `@`, with which an item begins
unfoldable pub behind_at : List ℕ → Option (List ℕ)
behind_at [] = None
behind_at (b ∷ bs) = if b == byte "@" then Some bs else behind_at bs

-- the next event of a text, given what is expected there; none if an item is expected and no `@` is left. Inside an item whitespace is
-- passed over first
unfoldable pub expected_step : Expected → List ℕ → Option Step
expected_step Item text = option_map (λ rest. step_by (head_at rest)) (behind_at text)
expected_step (Closing delimiter) text =
    Some (step_by (followed_by (sign_at (closing_delimiter delimiter) (NoClosing delimiter) text) (λ _ rest. Ok ((ItemEnd, Item), rest))))
expected_step (Fields delimiter) text = Some (step_by (field_event delimiter (more_in delimiter (past Gap text))))

-- an event, with its place: `rest` is the text from its end on
pub record Placed : Type 0 where
  pub event : Event
  pub rest : List ℕ

-- ---- what is known of the items before

-- an event is the key of an entry, and the key is stored already
abbrev pub is_repeated : (List ℕ → Bool) → Event → Bool
is_repeated is_stored (Entry kind key) = is_stored key
is_repeated is_stored _ = false

-- an event, given which keys are stored: the key of a stored entry is the error `Repeated entry`, after which an item is expected
abbrev pub as_known : (List ℕ → Bool) → Event × Expected → Event × Expected
as_known is_stored got = if is_repeated is_stored got.0 then (Wrong Repeated, Item) else got

-- the next event of a text, given what is expected there and which keys are stored: an entry that repeats one of these is an error
abbrev pub next_step : (List ℕ → Bool) → Expected → List ℕ → Option Step
next_step is_stored wanted text =
    option_map
    (λ (step : Step).
    let got = as_known is_stored (step.event, step.wanted) in
    record { event = got.0; wanted = got.1; rest = step.rest })
    (expected_step wanted text)

-- how what is known of the items before is kept, where S is the type of all that is known: which keys are stored, and what is known after a
-- further event
pub record StoredKeys (S : Type 0) : Type 0 where
  pub is_stored : S → List ℕ → Bool
  pub after : S → Event → S

-- ---- the events of a text

-- at most `turns` events of a text: the event of the next step, if there is one, and then those of the rest. The bound is that of `events_from`, and
-- is never reached
unfoldable pub events_within : {S : Type 0} → StoredKeys S → ℕ → S → Expected → List ℕ → List Placed
events_within stored_keys zero state wanted text = []
events_within stored_keys (suc turns) state wanted text =
    option_map_or
    (λ (step : Step).
    record { event = step.event; rest = step.rest }
    ∷ events_within stored_keys turns (stored_keys.after state step.event) step.wanted step.rest)
    (next_step (stored_keys.is_stored state) wanted text) []

-- the events of a text, given what is known before it and what is expected first. The bound on their number is never reached, since each takes a
-- byte or ends an item
unfoldable pub events_from : {S : Type 0} → StoredKeys S → S → Expected → List ℕ → List Placed
events_from stored_keys state wanted text = events_within stored_keys (suc (2 * length text + 1)) state wanted text
