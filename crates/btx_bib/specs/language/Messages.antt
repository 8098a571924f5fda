-- The messages of a database, each with its line and the byte at which it is met: faults, names that stand for no string, types that the style doesn't have, and fields
-- that an entry has already. They have names and keys as these are spelled there. An entry that isn't stored has no warning, only its faults. The
-- reading goes from event to event: what is known, and the messages so far.
use Rattle.std.specs.Prelude.{ℕ, false, List, [], ◌∷◌, ◌++◌, Option, None, Some, is_some, is_none, if◌then◌else◌, suc, ◌-◌, length}
use Rattle.std.specs.List.{flat_map}
use Rattle.btx_text.specs.language.Keys.{folded}
use Rattle.btx_aux.specs.language.Names.{is_same_key}
use Rattle.btx_bib.specs.declared.message.Message.{Message}
use Rattle.btx_bib.specs.declared.message.Message.TheVariants as message
use Rattle.btx_bib.specs.declared.message.SourcePosition.{SourcePosition}
use Rattle.btx_bib.specs.language.Grammar.Fields.{Field}
use Rattle.btx_bib.specs.language.Grammar.Items.{Event, Comment, Preamble, Definition, Entry, FieldOf, ItemEnd, Wrong, Placed}
use Rattle.btx_bib.specs.language.Grammar.PlaceLines.{lines_begun}
use Rattle.btx_bib.specs.language.Grammar.Values.{Part, Braced, Quoted, Digits, Named}
use Rattle.btx_bib.specs.language.Request.{Request}
use Rattle.btx_bib.specs.language.Strings.{string_value}
use Rattle.btx_bib.specs.language.Entries.{Given}
use Rattle.btx_bib.specs.language.Stored.{is_wanted}
use Rattle.btx_bib.specs.language.Known.{Known, goes_on, stored_in, has_value, known_after}
use Rattle.std.specs.Option.{option_map_or}

-- a database: the name of its file, and its text
pub record Database : Type 0 where
  pub file : List ℕ
  pub text : List ℕ

-- the place of a message: the file, the line of the byte with which `rest` begins, and how many bytes of the text are before `rest`
abbrev pub position_at : Database → List ℕ → SourcePosition
position_at database rest =
    let at = length database.text - length rest in
    record { file = database.file; line = lines_begun (suc at) database.text; at = at }

-- the same place, with the line of the last byte before `rest`
abbrev pub position_before : Database → List ℕ → SourcePosition
position_before database rest =
    let at = length database.text - length rest in
    record { file = database.file; line = lines_begun at database.text; at = at }

-- the message for a part of a value: a warning if it is a name to which no `@string` and no macro gives a text, or the very name that is being
-- defined (`own`)
abbrev pub name_messages : Database → List (List ℕ × List ℕ) → Option (List ℕ) → Part → List Message
name_messages database strings own (Braced text) = []
name_messages database strings own (Quoted text) = []
name_messages database strings own (Digits text) = []
name_messages database strings own (Named string) =
    if option_map_or (λ (defined : List ℕ). is_same_key defined string.name) own false then message.OwnString string.name (position_at database string.rest) ∷ []
    else if is_none (string_value strings string.name) then message.UndefinedString string.name (position_at database string.rest) ∷ [] else []

-- the messages of a value's names that stand for no string
abbrev pub value_messages : Database → List (List ℕ × List ℕ) → Option (List ℕ) → List Part → List Message
value_messages database strings own value = flat_map (name_messages database strings own) value

-- the messages for a field: that the entry has a value for it already; else one for each name of its value that stands for no string. There are none
-- if the entry isn't stored or the style doesn't declare the field
abbrev pub field_messages : Request → Database → List (List ℕ × List ℕ) → Option Given → Field → List ℕ → List Message
field_messages wanted database strings None field rest = []
field_messages wanted database strings (Some given) field rest =
    if has_value wanted given field.name then message.ExtraField given.key field.name (position_before database rest) ∷ []
    else if is_some (wanted.field (folded field.name)) then value_messages database strings None field.value else []

-- the messages for an event of a database; `rest` is the text after it, from which its line follows. For the key of an entry that is to be stored
-- there is a warning, if the style has no function for its type
abbrev pub event_messages : Request → Database → Known → Event → List ℕ → List Message
event_messages wanted database known Comment rest = []
event_messages wanted database known (Preamble value) rest = value_messages database known.strings None value
event_messages wanted database known (Definition name value) rest = value_messages database known.strings (Some name) value
event_messages wanted database known (Entry kind key) rest =
    if is_wanted wanted (stored_in known) key then
    (if is_none (wanted.kind (folded kind)) then message.UnknownKind key (position_at database rest) ∷ [] else [])
    else []
event_messages wanted database known (FieldOf field) rest = field_messages wanted database known.strings known.current field rest
event_messages wanted database known ItemEnd rest = []
event_messages wanted database known (Wrong slip) rest = message.Wrong slip (position_at database rest) ∷ []

-- ---- along a database

-- how far the reading of databases has come: what is known, and the messages so far
pub record Reading : Type 0 where
  pub known : Known
  pub messages : List Message

-- what is known and the messages after a further event; once a limit was met there are no more messages
abbrev pub read_next : Request → Database → Reading → Placed → Reading
read_next wanted database reading placed = record {
  known = known_after wanted reading.known placed.event;
  messages = reading.messages ++ (if goes_on reading.known.ending then event_messages wanted database reading.known placed.event placed.rest else []);
}
