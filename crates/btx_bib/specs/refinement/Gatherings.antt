-- What the code keeps while databases are read.
use Rattle.std.specs.Prelude.{◌≡◌, ℕ, nat_lt, ◌≤◌, ◌||◌, Bool, true, false, List, [], ◌∷◌, ◌++◌, length, Option, None, Some, is_some, if◌then◌else◌}
use Rattle.btx_text.specs.language.Keys.{folded}
use Rattle.btx_text.specs.language.Limits.{greatest_string}
use Rattle.btx_aux.specs.language.Names.{is_same_key}
use Rattle.btx_bib.specs.declared.draft.StoreDecision.{StoreDecision}
use Rattle.btx_bib.specs.declared.draft.StoreDecision.TheVariants as decision
use Rattle.btx_bib.specs.declared.end.End.TheVariants.{StringLimit}
use Rattle.btx_bib.specs.declared.gathering.Gathering.{Gathering}
use Rattle.btx_bib.specs.declared.gathering.Pending.{Pending}
use Rattle.btx_bib.specs.declared.grammar.commands.Expected.{Expected as Next}
use Rattle.btx_bib.specs.declared.grammar.value_ends.Ends.TheVariants.{Kept, Trimmed}
use Rattle.btx_bib.specs.declared.message.Message.{Message}
use Rattle.btx_bib.specs.declared.message.Message.TheVariants as message
use Rattle.btx_bib.specs.declared.reading.Reading.{Reading}
use Rattle.btx_bib.specs.language.Grammar.Fields.{Field}
use Rattle.btx_bib.specs.language.Grammar.Items.{Event, Comment, Preamble, Definition, Entry, FieldOf, ItemEnd, Wrong, Placed, StoredKeys, events_from}
use Rattle.btx_bib.specs.language.Grammar.Values.{Part}
use Rattle.btx_bib.specs.language.Grammar.ValueTexts.{value_text}
use Rattle.btx_bib.specs.refinement.Drafts.{place_in, has_entry, standing_at, stored_at}
use Rattle.btx_bib.specs.refinement.Filling.{blanks}
use Rattle.btx_bib.specs.refinement.Finding.{changed_at}
use Rattle.btx_bib.specs.refinement.Grammar.Reads.{left}
use Rattle.btx_bib.specs.language.Values.{field_value}
use Rattle.btx_bib.specs.language.Request.{Request}
use Rattle.btx_bib.specs.language.Strings.{defined, other_value, string_value}
use Rattle.btx_bib.specs.language.Known.{goes_on}
use Rattle.btx_bib.specs.language.Messages.{Database, position_at, position_before, value_messages}
use Rattle.btx_bib.specs.refinement.Strings.{Strings}
use Rattle.btx_bib.specs.refinement.Messages.{type_messages}
use Rattle.btx_bib.specs.refinement.Sites.{asked_in, database_read, reported}

-- an entry with the value of a field
abbrev pub with_field_text : Pending → ℕ → List ℕ → Pending
with_field_text pending field text = record pending {
  body = record pending.body {
    values = changed_at field (λ (old : Option (List ℕ)). Some text) pending.body.values;
  };
}

-- an entry after a field of this number, and whether the field's value is short enough
abbrev pub taken_at : Strings → Pending → Field → Option ℕ → Pending × Bool
taken_at strings pending field None = (pending, true)
taken_at strings pending field (Some number) =
    if is_some (field_value number pending.body.values) then (pending, true)
    else (let text = value_text Trimmed (string_value strings) field.value in if nat_lt greatest_string (length text) then (pending, false)
    else (with_field_text pending number text, true))

abbrev pub taken_by : Request → Strings → Pending → Field → Pending × Bool
taken_by wanted strings pending field = taken_at strings pending field (wanted.field (folded field.name))

-- the messages of a field of this number
abbrev pub messages_of_number : Database → Strings → Pending → Field → List ℕ → Option ℕ → List Message
messages_of_number database strings pending field rest None = []
messages_of_number database strings pending field rest (Some number) =
    if is_some (field_value number pending.body.values) then message.ExtraField pending.key field.name (position_before database rest) ∷ []
    else value_messages database strings None field.value

abbrev pub messages_of_field : Request → Database → Strings → Pending → Field → List ℕ → List Message
messages_of_field wanted database strings pending field rest = messages_of_number database strings pending field rest (wanted.field (folded field.name))

-- the messages of a field of the entry that is being read, or of none
abbrev pub messages_of_current : Request → Database → Strings → Field → List ℕ → Option Pending → List Message
messages_of_current wanted database strings field rest None = []
messages_of_current wanted database strings field rest (Some pending) = messages_of_field wanted database strings pending field rest

-- what is kept once the entry that was being read is at its end
abbrev pub closed_by : Request → Gathering → Option Pending → Gathering
closed_by wanted kept None = record kept { current = None }
closed_by wanted kept (Some pending) = record kept {
  draft = stored_at wanted pending.key pending.body kept.draft (place_in kept.draft pending.key);
  current = None;
}

abbrev pub closed : Request → Gathering → Gathering
closed wanted kept = closed_by wanted kept kept.current

-- what is kept where an entry of this type begins
abbrev pub begun : Request → Gathering → Option ℕ → List ℕ → Gathering
begun wanted kept kind key = record kept { current = Some (record { key = key; body = record { kind = kind; values = blanks wanted.count } }) }

-- what is kept after the key of an entry that stands so
abbrev pub begun_by : Request → Gathering → List ℕ → List ℕ → StoreDecision → Gathering
begun_by wanted kept kind key decision.Unwanted = kept
begun_by wanted kept kind key decision.Repeated = kept
begun_by wanted kept kind key decision.Expected = begun wanted kept (wanted.kind (folded kind)) key

-- what is kept after a field
abbrev pub ended_if : Bool → Gathering → Gathering
ended_if fits kept = if fits then kept else record kept { ending = StringLimit }

abbrev pub fielded_by : Request → Gathering → Field → Option Pending → Gathering
fielded_by wanted kept field None = record kept { current = None }
fielded_by wanted kept field (Some pending) =
    let taken = taken_by wanted kept.strings pending field in ended_if taken.1 (record kept { current = Some taken.0 })

-- what is kept after a `@string`, and after a `@preamble`
abbrev pub with_kept_string : Gathering → List ℕ → List Part → Gathering
with_kept_string kept name value =
    let text = value_text Kept (other_value kept.strings name) value in
    if nat_lt greatest_string (length text) then record kept { ending = StringLimit } else record kept { strings = defined kept.strings name text }

abbrev pub with_preamble : Gathering → List Part → Gathering
with_preamble kept value =
    let whole = kept.preamble ++ value_text Kept (string_value kept.strings) value in
    if nat_lt greatest_string (length whole) then record kept { ending = StringLimit } else record kept { preamble = whole }

-- what is kept after an entry's type and key
abbrev pub entered : Request → Gathering → List ℕ → List ℕ → Gathering
entered wanted kept kind key = let before = closed wanted kept in begun_by wanted before kind key (standing_at wanted before.draft (place_in before.draft key))

-- the message of an entry that stands so
abbrev pub messages_of_standing : Request → Database → List ℕ → List ℕ → List ℕ → StoreDecision → List Message
messages_of_standing wanted database kind key rest decision.Unwanted = []
messages_of_standing wanted database kind key rest decision.Repeated = []
messages_of_standing wanted database kind key rest decision.Expected = type_messages key (wanted.kind (folded kind)) (position_at database rest)

abbrev pub messages_of_entry : Request → Database → Gathering → List ℕ → List ℕ → List ℕ → List Message
messages_of_entry wanted database kept kind key rest =
    let before = closed wanted kept in messages_of_standing wanted database kind key rest (standing_at wanted before.draft (place_in before.draft key))

-- ---- along a database

-- the key is that of the entry that is being read
abbrev pub is_pending : Option Pending → List ℕ → Bool
is_pending None key = false
is_pending (Some pending) key = is_same_key pending.key key

-- an entry with this key is kept
abbrev pub is_kept : Gathering → List ℕ → Bool
is_kept kept key = is_pending kept.current key || has_entry kept.draft (place_in kept.draft key)

-- what is kept after something that was read
abbrev pub kept_after : Request → Gathering → Event → Gathering
kept_after wanted kept Comment = kept
kept_after wanted kept (Preamble value) = with_preamble kept value
kept_after wanted kept (Definition name value) = with_kept_string kept name value
kept_after wanted kept (Entry kind key) = entered wanted kept kind key
kept_after wanted kept (FieldOf field) = fielded_by wanted kept field kept.current
kept_after wanted kept ItemEnd = kept
kept_after wanted kept (Wrong slip) = kept

-- the messages of it
abbrev pub messages_of : Request → Database → Gathering → Event → List ℕ → List Message
messages_of wanted database kept Comment rest = []
messages_of wanted database kept (Preamble value) rest = value_messages database kept.strings None value
messages_of wanted database kept (Definition name value) rest = value_messages database kept.strings (Some name) value
messages_of wanted database kept (Entry kind key) rest = messages_of_entry wanted database kept kind key rest
messages_of wanted database kept (FieldOf field) rest = messages_of_current wanted database kept.strings field rest kept.current
messages_of wanted database kept ItemEnd rest = []
messages_of wanted database kept (Wrong slip) rest = message.Wrong slip (position_at database rest) ∷ []

-- the same, while the reading goes on
abbrev pub kept_next : Request → Gathering → Event → Gathering
kept_next wanted kept event = if goes_on kept.ending then kept_after wanted kept event else kept

abbrev pub messages_next : Request → Database → Gathering → Placed → List Message
messages_next wanted database kept placed = if goes_on kept.ending then messages_of wanted database kept placed.event placed.rest else []

-- what is kept after some events, and the messages along them
abbrev pub kept_along : Request → Gathering → List Placed → Gathering
kept_along wanted kept [] = kept
kept_along wanted kept (placed ∷ events) = kept_along wanted (kept_next wanted kept placed.event) events

abbrev pub kept_messages : Request → Database → Gathering → List Placed → List Message
kept_messages wanted database kept [] = []
kept_messages wanted database kept (placed ∷ events) = messages_next wanted database kept placed
    ++ kept_messages wanted database (kept_next wanted kept placed.event) events

-- the events of a text where this is kept and this is wanted first
abbrev pub keeping_kept : Request → StoredKeys Gathering
keeping_kept wanted = record { is_stored = is_kept; after = kept_next wanted }

abbrev pub events_with : Request → Gathering → Next → List ℕ → List Placed
events_with wanted kept next text = events_from (keeping_kept wanted) kept next text

-- what is kept after all events from a place on, and the messages along them
abbrev pub all_kept : Request → Gathering → Next × List ℕ → Gathering
all_kept wanted kept place = kept_along wanted kept (events_with wanted kept place.0 place.1)

abbrev pub all_messages : Request → Database → Gathering → Next × List ℕ → List Message
all_messages wanted database kept place = kept_messages wanted database kept (events_with wanted kept place.0 place.1)

-- what is kept, and the reading, once all events from a place on are read
abbrev pub read_on : Reading → Gathering → Next × List ℕ → Gathering × Reading
read_on reading kept place = (all_kept (asked_in reading) kept place, reported reading (all_messages (asked_in reading) (database_read reading) kept place))

-- what is kept and logged from a place on is what it is from an earlier one, and no more is left to read
abbrev pub GoesOn : Request → Gathering → Next × List ℕ → Next × List ℕ → Type 0
GoesOn wanted kept from to = record {
  state : all_kept wanted kept to ≡ all_kept wanted kept from;
  logged : (database : Database) → all_messages wanted database kept to ≡ all_messages wanted database kept from;
  shorter : left to.0 (length to.1) ≤ left from.0 (length from.1);
}

-- ---- a field in its plainest form, which is taken or not

-- what holds if it was taken, and what if it wasn't
abbrev pub IfTaken : Bool → Type 0 → Type 0 → Type 0
IfTaken true taken left = taken
IfTaken false taken left = left

-- no message comes of a field of the entry that is being read, or of none
abbrev pub IsSilent : Request → Strings → Field → Option Pending → Type 0
IsSilent wanted strings field current = (database : Database) (rest : List ℕ) → messages_of_current wanted database strings field rest current ≡ []
