-- The library of a job, made from the records of its databases: what a run takes from records, and what it skips. Which of the stored entries are listed,
-- and what they take from their parents, `btx_bib` says of stored entries alone (`slots_of`, `entries_of`).
use Rattle.std.specs.Prelude.{ℕ, zero, suc, ◌*◌, not, ◌&&◌, Bool, false, List, [], ◌∷◌, ◌++◌, length, map, drop, fold, Option, Some, is_some}
use Rattle.std.specs.Prelude.{Result, Ok, Err, if◌then◌else◌, option_map}
use Rattle.std.specs.Option.{option_and_then, ok_or}
use Rattle.btx_text.specs.language.Keys.{folded}
use Rattle.btx_text.specs.language.Limits.{is_too_long}
use Rattle.btx_bib.specs.declared.end.End.{End}
use Rattle.btx_bib.specs.declared.end.End.TheVariants as end
use Rattle.btx_bib.specs.declared.entry.Entry.{Entry as ListedEntry}
use Rattle.btx_bib.specs.declared.message.Message.{Message}
use Rattle.btx_bib.specs.language.Entries.{Given}
use Rattle.btx_bib.specs.language.Grammar.ValueTexts.{squeezed}
use Rattle.btx_bib.specs.language.Known.{has_value}
use Rattle.btx_bib.specs.language.Listing.{slots_of}
use Rattle.btx_bib.specs.language.Messages.{Database}
use Rattle.btx_bib.specs.language.Passes.{entries_of, reference_messages}
use Rattle.btx_bib.specs.language.Request.{Request}
use Rattle.btx_bib.specs.language.Stored.{entry_with_key, is_wanted}
use Rattle.btx_bib.specs.language.Strings.{defined}
use Rattle.btx_read.specs.declared.content.Content.{Content}
use Rattle.btx_read.specs.declared.content.Content.TheVariants.{Comment, Preamble, Definition, Entry, Field, End as ItemEnd, Wrong}
use Rattle.btx_read.specs.declared.record.Record.{Record}
use Rattle.btx_read.specs.Records.{fitting, records_of}

-- what records say, without their places
abbrev pub contents : List Record → List Content
contents records = map (λ (one : Record). one.content) records

-- ---- an entry and its fields

-- a field as its record has it: its name, and its text, or none if that is longer than a string may be
abbrev pub FieldRecord : Type 0
FieldRecord = List ℕ × Option (List ℕ)

-- the fields of an entry, where `others` are the records after the one that begins it: those before the next entry
abbrev pub fields_of : List Content → List FieldRecord
fields_of [] = []
fields_of (Comment ∷ others) = fields_of others
fields_of (Preamble text ∷ others) = fields_of others
fields_of (Definition name text ∷ others) = fields_of others
fields_of (Entry kind key ∷ others) = []
fields_of (Field name text ∷ others) = (name, text) ∷ fields_of others
fields_of (ItemEnd ∷ others) = fields_of others
fields_of (Wrong slip ∷ others) = fields_of others

-- an entry with one more field. The field counts if the style declares it and the entry has no value for it yet; else it is left out. None if the field
-- counts and its text is too long
abbrev pub with_field : Request → Given → FieldRecord → Option Given
with_field wanted given field =
    if is_some (wanted.field (folded field.0)) && not (has_value wanted given field.0) then
    option_map (λ (text : List ℕ). record given { fields = given.fields ++ record { name = field.0; value = text } ∷ [] }) field.1
    else Some given

-- an entry with these fields, of each name the first; none if the text of one that counts is too long
abbrev pub with_fields : Request → Given → List FieldRecord → Option Given
with_fields wanted given [] = Some given
with_fields wanted given (field ∷ fields) = option_and_then (λ (more : Given). with_fields wanted more fields) (with_field wanted given field)

-- ---- one record

-- what a run has taken from records: the strings that are known, the entries that are stored, and the texts of all `@preamble`s joined
pub record Taken : Type 0 where
  pub strings : List (List ℕ × List ℕ)
  pub stored : List Given
  pub preamble : List ℕ

-- what a run has taken after one more record, where `others` are the records after it. A `@preamble` is appended, a `@string` is known from then on, and
-- an entry is stored with its fields if it is wanted. None if a text that counts is too long: the run ends there
abbrev pub taken_by : Request → Taken → Content → List Content → Option Taken
taken_by wanted taken Comment others = Some taken
taken_by wanted taken (Preamble text) others =
    let longer = option_and_then (λ (text : List ℕ). fitting (taken.preamble ++ text)) text in
    option_map (λ (whole : List ℕ). record taken { preamble = whole }) longer
taken_by wanted taken (Definition name text) others = option_map (λ (text : List ℕ). record taken { strings = defined taken.strings name text }) text
taken_by wanted taken (Entry kind key) others =
    if is_wanted wanted taken.stored key then
    (let entry = with_fields wanted (record { kind = kind; key = key; fields = [] }) (fields_of others) in
    option_map (λ (given : Given). record taken { stored = taken.stored ++ given ∷ [] }) entry)
    else Some taken
taken_by wanted taken (Field name text) others = Some taken
taken_by wanted taken ItemEnd others = Some taken
taken_by wanted taken (Wrong slip) others = Some taken

-- ---- a text

-- a record begins an entry whose key an entry has that is stored already
abbrev pub is_repeated : List Given → Content → Bool
is_repeated stored (Entry kind key) = is_some (entry_with_key stored key)
is_repeated stored _ = false

-- what a run has taken after these records of a text. At an entry with a repeated key the run drops the other records: what is left of the text after that
-- key is read as a text of its own (`read_on`). So items may be met in the fields that it skips
abbrev pub taken_along : (Taken → List ℕ → Option Taken) → Request → List ℕ → Taken → List Record → Option Taken
taken_along read_on wanted text taken [] = Some taken
taken_along read_on wanted text taken (one ∷ others) =
    if is_repeated taken.stored one.content then read_on taken (drop one.end text)
    else option_and_then (λ (next : Taken). taken_along read_on wanted text next others) (taken_by wanted taken one.content (contents others))

-- what a run has taken after a text that is read at most `turns` times, from another place each time. The bound is that of `taken_after`, and is never reached
unfoldable pub taken_within : ℕ → Request → Taken → List ℕ → Option Taken
taken_within zero wanted taken text = Some taken
taken_within (suc turns) wanted taken text = taken_along (taken_within turns wanted) wanted text taken (records_of taken.strings text)

-- what a run has taken after a text; none if a text in it that counts is too long
abbrev pub taken_after : Request → Taken → List ℕ → Option Taken
taken_after wanted taken text = taken_within (suc (2 * length text)) wanted taken text

-- ---- all databases

-- what a run has taken after one more macro of the style: it is a string, whose text is squeezed
abbrev pub with_macro : Request → Option Taken → List ℕ × List ℕ → Option Taken
with_macro wanted before macro = option_and_then (λ (taken : Taken). taken_by wanted taken (Definition macro.0 (fitting (squeezed macro.1))) []) before

-- what a run has taken after one more database, or the limit at which it has ended
abbrev pub with_database : Request → Result Taken End → Database → Result Taken End
with_database wanted (Err ended) database = Err ended
with_database wanted (Ok taken) database =
    if is_too_long database.text then Err end.FileLimit else ok_or (taken_after wanted taken database.text) end.StringLimit

-- what a run has taken before the first database, or the limit at which it has ended: each macro of the style is a string
abbrev pub taken_from_macros : Request → List (List ℕ × List ℕ) → Result Taken End
taken_from_macros wanted macros =
    let nothing : Taken = record { strings = []; stored = []; preamble = [] } in
    ok_or (fold (with_macro wanted) (Some nothing) macros) end.StringLimit

-- what a run has taken after all databases, or the limit at which it has ended
abbrev pub taken_from_all : Request → List (List ℕ × List ℕ) → List Database → Result Taken End
taken_from_all wanted macros databases = fold (with_database wanted) (taken_from_macros wanted macros) databases

-- a library without its messages: the entries in the order of the list, the preamble, and how the reading ended
pub record LibraryParts : Type 0 where
  pub entries : List ListedEntry
  pub preamble : List ℕ
  pub ending : End

-- the library of what a run has taken; after a limit it has no entries and no preamble
abbrev pub parts_by : Request → Result Taken End → LibraryParts
parts_by wanted (Ok taken) = record { entries = entries_of (slots_of wanted taken.stored); preamble = taken.preamble; ending = end.Whole }
parts_by wanted (Err ended) = record { entries = []; preamble = []; ending = ended }

-- the library of a job, made from the records of its databases; `macros` are those of its style
unfoldable pub library_from_records : Request → List (List ℕ × List ℕ) → List Database → LibraryParts
library_from_records wanted macros databases = parts_by wanted (taken_from_all wanted macros databases)

-- the messages about references, and about cited keys that have no entry; after a limit there are none
abbrev pub reference_messages_by : Request → Result Taken End → List Message
reference_messages_by wanted (Ok taken) = reference_messages (slots_of wanted taken.stored)
reference_messages_by wanted (Err ended) = []

-- the same of a job, made from the records of its databases
unfoldable pub reference_messages_from_records : Request → List (List ℕ × List ℕ) → List Database → List Message
reference_messages_from_records wanted macros databases = reference_messages_by wanted (taken_from_all wanted macros databases)
