-- What is known of the databases while they are read, item by item: the strings, the entries that are stored, the preamble, and whether
-- the reading has ended at a limit, after which nothing more is known. What an item is, is the grammar's.
use Rattle.std.specs.Prelude.{ℕ, nat_lt, not, ◌&&◌, Bool, true, false, List, [], ◌∷◌, ◌++◌, length, Option, None, Some, is_some, if◌then◌else◌, option_to_list}
use Rattle.btx_text.specs.language.Keys.{folded}
use Rattle.btx_text.specs.language.Limits.{greatest_string}
use Rattle.btx_bib.specs.declared.end.End.{End}
use Rattle.btx_bib.specs.declared.end.End.TheVariants as end
use Rattle.btx_bib.specs.declared.grammar.value_ends.Ends.TheVariants.{Kept, Trimmed}
use Rattle.btx_bib.specs.language.Grammar.Fields.{Field}
use Rattle.btx_bib.specs.language.Grammar.Items.{Event, Comment, Preamble, Definition, Entry, FieldOf, ItemEnd as Close, Wrong, StoredKeys}
use Rattle.btx_bib.specs.language.Grammar.ValueTexts.{value_text}
use Rattle.btx_bib.specs.language.Request.{Request}
use Rattle.btx_bib.specs.language.Strings.{string_value, other_value, defined}
use Rattle.btx_bib.specs.language.Entries.{Given, field_values}
use Rattle.btx_bib.specs.language.Stored.{entry_with_key, is_wanted}
use Rattle.std.specs.Option.{option_and_then}
use Rattle.btx_bib.specs.language.Values.{field_value}

-- the strings, which are names in lower case, each with its value; the entries that are stored, the one of these that is being read, the values of all
-- `@preamble`s joined, and how the reading has ended so far
pub record Known : Type 0 where
  pub strings : List (List ℕ × List ℕ)
  pub stored : List Given
  pub current : Option Given
  pub preamble : List ℕ
  pub ending : End

-- the reading goes on: no limit was met yet
abbrev pub goes_on : End → Bool
goes_on end.Whole = true
goes_on end.FileLimit = false
goes_on end.StringLimit = false

-- the stored entries, with the one that is being read
abbrev pub stored_in : Known → List Given
stored_in known = known.stored ++ option_to_list known.current

-- what is known once the entry that is being read has ended: it is stored
abbrev pub with_current_stored : Known → Known
with_current_stored known = record known { stored = stored_in known; current = None }

-- what is known after a string whose text is `text`: `next`, or, if the text is too long, that the reading has ended
abbrev pub if_fits : List ℕ → Known → Known → Known
if_fits text known next = if nat_lt greatest_string (length text) then record known { ending = end.StringLimit } else next

-- an entry has a value for the field `name` already
abbrev pub has_value : Request → Given → List ℕ → Bool
has_value wanted given name =
    is_some (option_and_then
    (λ (place : ℕ). field_value place (field_values wanted given.fields))
    (wanted.field (folded name)))

-- what is known after a field: it is kept, after the entry's other fields, if its entry is stored, the style declares the field, and the entry has no
-- value for it yet; a value that is too long ends the reading. Any other field changes nothing
abbrev pub after_field : Request → Known → Option Given → Field → Known
after_field wanted known None field = known
after_field wanted known (Some given) field =
    if is_some (wanted.field (folded field.name)) && not (has_value wanted given field.name) then
    (let text = value_text Trimmed (string_value known.strings) field.value in
    let more = record given { fields = given.fields ++ record { name = field.name; value = text } ∷ [] } in
    if_fits text known (record known { current = Some more }))
    else known

-- what is known after an event: a `@preamble` is appended, and a `@string` defined. An entry's key first stores the entry that was being read, and a
-- wanted entry becomes the one that is being read, without a field yet; a field goes to that entry. `Close`, which the grammar calls `ItemEnd`, is the end
-- of an item
abbrev pub after_event : Request → Known → Event → Known
after_event wanted known Comment = known
after_event wanted known (Preamble value) =
    let whole = known.preamble ++ value_text Kept (string_value known.strings) value in if_fits whole known (record known { preamble = whole })
after_event wanted known (Definition name value) =
    let text = value_text Kept (other_value known.strings name) value in if_fits text known (record known { strings = defined known.strings name text })
after_event wanted known (Entry kind key) =
    let before = with_current_stored known in
    if is_wanted wanted before.stored key then record before { current = Some (record { kind = kind; key = key; fields = [] }) } else before
after_event wanted known (FieldOf field) = after_field wanted known known.current field
after_event wanted known Close = known
after_event wanted known (Wrong slip) = known

-- what is known after an event; once a limit was met, nothing changes any more
abbrev pub known_after : Request → Known → Event → Known
known_after wanted known event = if goes_on known.ending then after_event wanted known event else known

-- which keys are stored, for the grammar: an entry with such a key is a repeated one
abbrev pub stored_keys : Request → StoredKeys Known
stored_keys wanted = record { is_stored = λ known key. is_some (entry_with_key (stored_in known) key); after = known_after wanted }
