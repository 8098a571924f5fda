-- What the code keeps of the list of keys while databases are read, and what an entry adds to it.
use Rattle.std.specs.Prelude.{ℕ, ◌-◌, nat_eq, ◌||◌, Bool, true, false, List, [], ◌∷◌, ◌++◌, map, Option, None, Some, is_some, slice_get, if◌then◌else◌}
use Rattle.std.specs.Option.{unwrap_or}
use Rattle.std.specs.Str.{bytes_eq}
use Rattle.btx_text.specs.language.Keys.{folded}
use Rattle.btx_aux.specs.language.Names.{listed_as}
use Rattle.btx_bib.specs.declared.draft.ListBuilder.{ListBuilder}
use Rattle.btx_bib.specs.declared.draft.StoreDecision.{StoreDecision}
use Rattle.btx_bib.specs.declared.draft.StoreDecision.TheVariants.{Unwanted, Repeated, Expected}
use Rattle.btx_bib.specs.declared.slots.Body.{Body}
use Rattle.btx_bib.specs.declared.slots.Slot.{Slot as CodeSlot}
use Rattle.btx_bib.specs.language.Listing.{Slot}
use Rattle.btx_bib.specs.refinement.Finding.{first_place, changed_at}
use Rattle.btx_bib.specs.language.Request.{Request}
use Rattle.btx_bib.specs.language.Entries.{parent_in}

-- the place of a key
abbrev pub place_in : ListBuilder → List ℕ → Option ℕ
place_in draft key = first_place (bytes_eq (folded key)) draft.names

-- the place of a key that has no entry yet
abbrev pub open_slot : Request → Bool → ℕ → List ℕ → CodeSlot
open_slot request is_cited count key = record { key = key; is_cited = is_cited; wanting = request.fewest - count; body = None }

-- a place that gets an entry
abbrev pub with_entry : Body → List ℕ → CodeSlot → CodeSlot
with_entry body key slot = record { key = if slot.is_cited then slot.key else key; is_cited = slot.is_cited; wanting = slot.wanting; body = Some body }

-- a place that is referred to once more
abbrev pub once_more : CodeSlot → CodeSlot
once_more slot = record slot { wanting = slot.wanting - 1 }

-- no key
abbrev pub empty : ListBuilder
empty = record { names = []; slots = [] }

-- the list after a cited key, which has this place
abbrev pub cited_at : Request → List ℕ → ListBuilder → Option ℕ → ListBuilder
cited_at request key draft (Some place) = draft
cited_at request key draft None = record { names = draft.names ++ folded key ∷ []; slots = draft.slots ++ open_slot request true 0 key ∷ [] }

-- the list after some cited keys
abbrev pub cited_all : Request → ListBuilder → List (List ℕ) → ListBuilder
cited_all request draft [] = draft
cited_all request draft (key ∷ keys) = cited_all request (cited_at request key draft (place_in draft key)) keys

-- there is an entry at a place
abbrev pub has_body : Option CodeSlot → Bool
has_body None = false
has_body (Some slot) = is_some slot.body

-- there is an entry at the place of a key
abbrev pub has_entry : ListBuilder → Option ℕ → Bool
has_entry draft None = false
has_entry draft (Some place) = has_body (slice_get draft.slots place)

-- how an entry stands whose key isn't in the list, and whose key has this place
abbrev pub new_standing : Option ℕ → StoreDecision
new_standing None = Unwanted
new_standing (Some place) = Expected

abbrev pub standing_at : Request → ListBuilder → Option ℕ → StoreDecision
standing_at request draft None = new_standing request.all
standing_at request draft (Some place) = if has_body (slice_get draft.slots place) then Repeated else Expected

-- the list after a reference to a key, which has this place
abbrev pub referred_at : Request → List ℕ → ListBuilder → Option ℕ → ListBuilder
referred_at request key draft (Some place) = record draft { slots = changed_at place once_more draft.slots }
referred_at request key draft None = record { names = draft.names ++ folded key ∷ []; slots = draft.slots ++ open_slot request false 1 key ∷ [] }

-- the list after the reference of an entry, if it has one: with `*` it doesn't count
abbrev pub referred_by : Option ℕ → Request → ListBuilder → Option (List ℕ) → ListBuilder
referred_by (Some place) request draft parent = draft
referred_by None request draft None = draft
referred_by None request draft (Some key) = referred_at request key draft (place_in draft key)

abbrev pub referred : Request → ListBuilder → Option (List ℕ) → ListBuilder
referred request draft parent = referred_by request.all request draft parent

-- the place of a key that isn't in the list yet: it is spelled as it was cited, or as its entry has it
abbrev pub late_slot : Request → List ℕ → Option (List ℕ) → CodeSlot
late_slot request key cited = open_slot request (is_some cited) 0 (unwrap_or cited key)

-- the list with an entry put where its key has this place, or at a new place
abbrev pub put_at : Request → List ℕ → Body → ListBuilder → Option ℕ → ListBuilder
put_at request key body draft (Some place) = record draft { slots = changed_at place (with_entry body key) draft.slots }
put_at request key body draft None = record {
  names = draft.names ++ folded key ∷ [];
  slots = draft.slots ++ with_entry body key (late_slot request key (listed_as request.cited key)) ∷ [];
}

-- the list after an entry that is stored, whose key has this place
unfoldable pub stored_at : Request → List ℕ → Body → ListBuilder → Option ℕ → ListBuilder
stored_at request key body draft place = referred request (put_at request key body draft place) (parent_in body.values)

-- ---- as the definitions have the list

-- a place of the list: its entry stays if it was cited, or lacks no reference
abbrev pub settled : CodeSlot → Slot
settled slot = record { key = slot.key; stays = slot.is_cited || nat_eq slot.wanting 0; body = slot.body }

-- all places of the list
abbrev pub settled_all : List CodeSlot → List Slot
settled_all slots = map settled slots
