-- The passes, place by place, where places are found by the keys in lower case.
use Rattle.std.specs.Prelude.{ℕ, List, [], map, Option, None, Some, slice_get}
use Rattle.std.specs.Str.{bytes_eq}
use Rattle.btx_text.specs.language.Keys.{folded}
use Rattle.btx_bib.specs.declared.message.Message.{Message}
use Rattle.btx_bib.specs.language.Listing.{Slot}
use Rattle.btx_bib.specs.refinement.Finding.{first_place}
use Rattle.btx_bib.specs.language.Passes.{parent_at, check_messages}

-- the keys of places in lower case
abbrev pub lower_keys : List Slot → List (List ℕ)
lower_keys slots = map (λ (slot : Slot). folded slot.key) slots

-- the key of the parent of the entry at a place
abbrev pub parent_by : Option Slot → Option (List ℕ)
parent_by None = None
parent_by (Some slot) = parent_at slot

-- the place of a key, if there is a key
abbrev pub place_by : List (List ℕ) → Option (List ℕ) → Option ℕ
place_by names None = None
place_by names (Some key) = first_place (bytes_eq (folded key)) names

-- what is at a place, if there is a place
abbrev pub slot_by : List Slot → Option ℕ → Option Slot
slot_by slots None = None
slot_by slots (Some place) = slice_get slots place

-- the messages of the second pass at a place
abbrev pub messages_by : List Slot → Option Slot → List Message
messages_by slots None = []
messages_by slots (Some slot) = check_messages slots slot
