-- Cross-references (btxdoc, section 2.2's `crossref`; the two passes are those of the original). Each pass goes along the list, and
-- each place is judged by the list as it is then.
use Rattle.std.specs.Prelude.{ℕ, ◌&&◌, Bool, false, List, [], ◌∷◌, ◌++◌, Option, None, Some, is_some, if◌then◌else◌, option_map}
use Rattle.std.specs.List.{find, flat_map}
use Rattle.std.specs.Option.{option_or, option_map_or, option_and_then}
use Rattle.btx_aux.specs.language.Names.{is_same_key}
use Rattle.btx_bib.specs.declared.entry.Entry.{Entry}
use Rattle.btx_bib.specs.declared.message.Message.{Message}
use Rattle.btx_bib.specs.declared.message.Message.TheVariants.{BadReference, NestedReference, NoEntry}
use Rattle.btx_bib.specs.declared.slots.Body.{Body}
use Rattle.btx_bib.specs.language.Listing.{Slot}
use Rattle.btx_bib.specs.language.Entries.{parent_in}

-- the list after a pass that changes each place in turn: `judge` sees the list as it is then, of which the places `done` have been changed
-- already
abbrev pub passed : (List Slot → Slot → Slot) → List Slot → List Slot → List Slot
passed judge done [] = done
passed judge done (slot ∷ slots) = passed judge (done ++ judge (done ++ slot ∷ slots) slot ∷ []) slots

-- the messages of a pass, in the order of the places: `report` sees a place before `judge` changes it, so that a message can name a parent that the
-- pass takes away
abbrev pub pass_messages : (List Slot → Slot → Slot) → (List Slot → Slot → List Message) → List Slot → List Slot → List Message
pass_messages judge report done [] = []
pass_messages judge report done (slot ∷ slots) =
    report (done ++ slot ∷ slots) slot
    ++ pass_messages judge report (done ++ judge (done ++ slot ∷ slots) slot ∷ []) slots

-- the values of an entry of the list; none if the place has no entry
abbrev pub body_values : Option Body → List (Option (List ℕ))
body_values None = []
body_values (Some body) = body.values

-- the key of the parent of the entry at a place
abbrev pub parent_at : Slot → Option (List ℕ)
parent_at slot = parent_in (body_values slot.body)

-- the place of the list that has this key, whose case is ignored
abbrev pub slot_at : List Slot → List ℕ → Option Slot
slot_at slots key = find (λ (slot : Slot). is_same_key key slot.key) slots

-- an entry's values, with the parent's value for each missing one
abbrev pub or_values : List (Option (List ℕ)) → List (Option (List ℕ)) → List (Option (List ℕ))
or_values [] parents = []
or_values (value ∷ values) [] = value ∷ values
or_values (value ∷ values) (parent ∷ parents) = option_or value parent ∷ or_values values parents

-- an entry's values, where those that are missing are the parent's, and `crossref` is the parent's key as the list spells it
abbrev pub inherited_values : List ℕ → List (Option (List ℕ)) → List (Option (List ℕ)) → List (Option (List ℕ))
inherited_values key [] parents = []
inherited_values key (value ∷ values) [] = Some key ∷ values
inherited_values key (value ∷ values) (parent ∷ parents) = Some key ∷ or_values values parents

-- the first pass at a place, given the place of the parent: the entry's `crossref` becomes the parent's key as the list spells it, and each field
-- that the entry lacks takes the parent's value
abbrev pub inherited_from : Option Slot → Slot → Slot
inherited_from None slot = slot
inherited_from (Some parent) slot =
    record slot {
      body = option_map (λ (body : Body). record body { values = inherited_values parent.key (body_values slot.body) (body_values parent.body) }) slot.body;
    }

-- the first pass, at a place of the list: what the entry there lacks it takes from its parent, by what that has at that moment
unfoldable pub inherited : List Slot → Slot → Slot
inherited slots slot = inherited_from (option_and_then (slot_at slots) (parent_at slot)) slot

-- values without the parent's key
abbrev pub without_parent : List (Option (List ℕ)) → List (Option (List ℕ))
without_parent [] = []
without_parent (value ∷ values) = None ∷ values

-- a place of the list whose entry has lost its `crossref`
abbrev pub without_crossref : Slot → Slot
without_crossref slot = record slot { body = option_map (λ (body : Body). record body { values = without_parent (body_values slot.body) }) slot.body }

-- the parent has an entry that stays
abbrev pub is_parent : Option Slot → Bool
is_parent None = false
is_parent (Some parent) = is_some parent.body && parent.stays

-- the second pass, at a place of the list: the entry there loses its `crossref` if the parent that it names has no entry or doesn't stay
unfoldable pub checked : List Slot → Slot → Slot
checked slots slot =
    option_map_or
    (λ (key : List ℕ).
    if is_parent (slot_at slots key) then slot else without_crossref slot)
    (parent_at slot) slot

-- the message of a parent: that it has no entry, or that it has a parent
abbrev pub parent_messages : List ℕ → List ℕ → Option Slot → List Message
parent_messages child key None = BadReference child key ∷ []
parent_messages child key (Some parent) =
    if is_some parent.body then (if is_some (parent_at parent) then NestedReference child key ∷ [] else []) else BadReference child key ∷ []

-- what the second pass logs of a place: that the parent which the entry there names has no entry, or that it has a parent itself; else nothing
unfoldable pub check_messages : List Slot → Slot → List Message
check_messages slots slot =
    option_map_or (λ (key : List ℕ). parent_messages slot.key key (slot_at slots key))
    (parent_at slot) []

-- the entry of the library at a place of the list, if one is there and stays
abbrev pub entry_at : Slot → List Entry
entry_at slot =
    option_map_or
    (λ (body : Body).
    if slot.stays then record { key = slot.key; kind = body.kind; values = body.values } ∷ []
    else [])
    slot.body []

-- the list after the first pass: children have what they inherit
abbrev pub after_first : List Slot → List Slot
after_first slots = passed inherited [] slots

-- the list after both passes: entries whose parents are missing or leave have lost their `crossref`
abbrev pub after_second : List Slot → List Slot
after_second slots = passed checked [] slots

-- the entries of the list that stay, in order, after both passes
unfoldable pub entries_of : List Slot → List Entry
entries_of slots = flat_map entry_at (after_second (after_first slots))

-- the messages of the passes: of parents, and then of keys that have no entry
unfoldable pub reference_messages : List Slot → List Message
reference_messages slots =
    pass_messages checked check_messages [] (after_first slots)
    ++ flat_map
    (λ (slot : Slot). if is_some slot.body then [] else NoEntry slot.key ∷ [])
    (after_second (after_first slots))
