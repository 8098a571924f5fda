-- A place of the list with another entry, as the code's clauses have it.
use Rattle.std.specs.Prelude.{Option, List, [], ◌∷◌, ℕ, if◌then◌else◌, Bool, is_some, option_map}
use Rattle.btx_bib.specs.declared.slots.Body.{Body}
use Rattle.btx_bib.specs.language.Listing.{Slot}
use Rattle.std.specs.Option.{option_map_or, option_and_then}
use Rattle.btx_bib.specs.declared.message.Message.{Message}
use Rattle.btx_bib.specs.declared.message.Message.TheVariants.{NoEntry}
use Rattle.btx_bib.specs.language.Passes.{slot_at, without_crossref, is_parent, parent_messages}
use Rattle.btx_bib.specs.declared.entry.Entry.{Entry}

-- the second pass at a place, given the key of the parent that the entry there names: the entry loses its `crossref` if the parent has no entry or
-- doesn't stay
abbrev pub checked_by : Option (List ℕ) → List Slot → Slot → Slot
checked_by parent slots slot = option_map_or (λ (key : List ℕ). if is_parent (slot_at slots key) then slot else without_crossref slot) parent slot

-- the place of the list for a parent, given its key, if there is one
abbrev pub parent_slot : List Slot → Option (List ℕ) → Option Slot
parent_slot slots key = option_and_then (slot_at slots) key

-- the messages about the parent that the entry at a place of the list names, if it names one
abbrev pub check_messages_by : Option (List ℕ) → List Slot → Slot → List Message
check_messages_by parent slots slot = option_map_or (λ (key : List ℕ). parent_messages slot.key key (slot_at slots key)) parent []

-- the entry at a place of the list, if there is one and it stays
abbrev pub entry_by : List ℕ → Bool → Option Body → List Entry
entry_by key stays body =
    option_map_or (λ (found : Body). if stays then record { key = key; kind = found.kind; values = found.values } ∷ [] else []) body []

-- an entry with other values for its fields, if there is an entry
abbrev pub with_field_values : Option Body → List (Option (List ℕ)) → Option Body
with_field_values body values = option_map (λ (found : Body). record found { values = values }) body

-- the message of a place of the list, where its key has no entry
abbrev pub absence_messages : Slot → List Message
absence_messages slot = if is_some slot.body then [] else NoEntry slot.key ∷ []

-- a place of the list with another entry
abbrev pub with_body : Slot → Option Body → Slot
with_body slot body = record slot { body = body }
