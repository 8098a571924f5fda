-- The type of each entry that the databases give is a function of the style, or none.
use Rattle.std.proofs.Common.{◌≡◌, ℕ, zero, suc, ◌<◌, List, [], ◌∷◌, ◌++◌, Option, None, Some, Bool, true, false, cond, option_map, subst, refl}
use Rattle.std.specs.Prelude.{map, slice_get}
use Rattle.std.specs.List.{flat_map}
use Rattle.btx_text.specs.language.Keys.{folded}
use Rattle.btx_bib.specs.declared.end.End.{End}
use Rattle.btx_bib.specs.declared.end.End.TheVariants as end
use Rattle.btx_bib.specs.declared.entry.Entry.{Entry}
use Rattle.btx_bib.specs.declared.message.Message.{Message}
use Rattle.btx_bib.specs.declared.slots.Body.{Body}
use Rattle.btx_bib.specs.language.Databases.{library_by, library_of}
use Rattle.btx_bib.specs.language.Entries.{Given, body_of}
use Rattle.btx_bib.specs.language.Known.{Known}
use Rattle.btx_bib.specs.language.Library.{entry_type}
use Rattle.btx_bib.specs.language.Listing.{Slot, slot_of, slots_of, list_keys}
use Rattle.btx_bib.specs.language.Passes.{passed, slot_at, parent_at, inherited_from, inherited, is_parent, without_crossref, checked, entry_at, after_first}
use Rattle.btx_bib.specs.language.Passes.{after_second, entries_of, inherited_values, without_parent, body_values}
use Rattle.btx_bib.specs.language.Stored.{entry_with_key}
use Rattle.btx_bib.specs.language.Messages.{Database}
use Rattle.btx_bib.specs.language.Request.{Request}
use Rattle.btx_bib.specs.laws.Databases.{read_all}
use Rattle.btx_bib.specs.refinement.Passes.{checked_by, parent_slot, entry_by, with_field_values}

module _ (n : ℕ) where
  -- one of the first n functions, or none
  abbrev IsFirst : Option ℕ → Type 0
  IsFirst None = Unit {0}
  IsFirst (Some number) = number < n

  abbrev BodyFits : Option Body → Type 0
  BodyFits None = Unit {0}
  BodyFits (Some body) = IsFirst body.kind

  abbrev SlotsFit : List Slot → Type 0
  SlotsFit [] = Unit {0}
  SlotsFit (slot ∷ slots) = BodyFits slot.body × SlotsFit slots

  abbrev EntriesFit : List Entry → Type 0
  EntriesFit [] = Unit {0}
  EntriesFit (entry ∷ entries) = IsFirst entry.kind × EntriesFit entries

  -- ---- the passes

  slots_more : (xs ys : List Slot) → SlotsFit xs → SlotsFit ys → SlotsFit (xs ++ ys)
  slots_more [] ys h k = k
  slots_more (x ∷ xs) ys h k = (h.0, slots_more xs ys h.1 k)

  pass_fits : (judge : List Slot → Slot → Slot) → ((slots : List Slot) (slot : Slot) → BodyFits slot.body → BodyFits (judge slots slot).body)
      → (done slots : List Slot) → SlotsFit done → SlotsFit slots → SlotsFit (passed judge done slots)
  pass_fits judge each done [] h k = h
  pass_fits judge each done (slot ∷ slots) h k =
      pass_fits judge each (done ++ judge (done ++ slot ∷ slots) slot ∷ []) slots
      (slots_more done (judge (done ++ slot ∷ slots) slot ∷ []) h (each (done ++ slot ∷ slots) slot k.0, tt)) k.1

  values_fit : (body : Option Body) (values : List (Option (List ℕ))) → BodyFits body → BodyFits (with_field_values body values)
  values_fit None values h = h
  values_fit (Some body) values h = h

  inherited_fits : (slots : List Slot) (slot : Slot) → BodyFits slot.body → BodyFits (inherited slots slot).body
  unfolding inherited
  inherited_fits slots slot h = by (parent_slot slots (parent_at slot))
    where
      by : (parent : Option Slot) → BodyFits (inherited_from parent slot).body
      by None = h
      by (Some parent) = values_fit slot.body (inherited_values parent.key (body_values slot.body) (body_values parent.body)) h

  checked_fits : (slots : List Slot) (slot : Slot) → BodyFits slot.body → BodyFits (checked slots slot).body
  unfolding checked
  checked_fits slots slot h = by (parent_at slot)
    where
      one_of : (b : Bool) → BodyFits (cond b slot (without_crossref slot)).body
      one_of true = h
      one_of false = values_fit slot.body (without_parent (body_values slot.body)) h

      by : (key : Option (List ℕ)) → BodyFits (checked_by key slots slot).body
      by None = h
      by (Some key) = one_of (is_parent (slot_at slots key))

  -- ---- the entries that stay

  entries_more : (xs ys : List Entry) → EntriesFit xs → EntriesFit ys → EntriesFit (xs ++ ys)
  entries_more [] ys h k = k
  entries_more (x ∷ xs) ys h k = (h.0, entries_more xs ys h.1 k)

  entry_fits : (key : List ℕ) (enough : Bool) (body : Option Body) → BodyFits body → EntriesFit (entry_by key enough body)
  entry_fits key enough None h = tt
  entry_fits key true (Some body) h = (h, tt)
  entry_fits key false (Some body) h = tt

  all_fit : (slots : List Slot) → SlotsFit slots → EntriesFit (flat_map entry_at slots)
  all_fit [] h = tt
  all_fit (slot ∷ slots) h = entries_more (entry_at slot) (flat_map entry_at slots) (entry_fits slot.key slot.stays slot.body h.0) (all_fit slots h.1)

  entries_fit : (slots : List Slot) → SlotsFit slots → EntriesFit (entries_of slots)
  unfolding entries_of
  entries_fit slots h = all_fit (after_second (after_first slots))
      (pass_fits checked checked_fits [] (after_first slots) tt (pass_fits inherited inherited_fits [] slots tt h))

  -- ---- the list

  module _ (wanted : Request) (kinds : (name : List ℕ) → IsFirst (wanted.kind name)) where
    stored_fits : (given : Option Given) → BodyFits (option_map (body_of wanted) given)
    unfolding body_of
    stored_fits None = tt
    stored_fits (Some given) = kinds (folded given.kind)

    slot_fits : (stored : List Given) (key : List ℕ) → BodyFits (slot_of wanted stored key).body
    unfolding slot_of
    slot_fits stored key = stored_fits (entry_with_key stored key)

    slots_fit : (stored : List Given) (keys : List (List ℕ)) → SlotsFit (map (slot_of wanted stored) keys)
    slots_fit stored [] = tt
    slots_fit stored (key ∷ keys) = (slot_fits stored key, slots_fit stored keys)

    library_fits : (end : End) (known : Known) (messages : List Message) → EntriesFit (library_by end wanted known messages).entries
    library_fits end.Whole known messages = entries_fit (slots_of wanted known.stored) (slots_fit known.stored (list_keys wanted known.stored))
    library_fits end.FileLimit known messages = tt
    library_fits end.StringLimit known messages = tt

    pub databases_fit : (macros : List (List ℕ × List ℕ)) (databases : List Database) → EntriesFit (library_of wanted macros databases).entries
    unfolding library_of
    databases_fit macros databases = let reading = read_all wanted macros databases in library_fits reading.known.ending reading.known reading.messages

  pub kind_fits : (entries : List Entry) (place number : ℕ) → EntriesFit entries → entry_type (slice_get entries place) ≡ Some number → number < n
  kind_fits [] place number h e = absurd (cc)
  kind_fits (entry ∷ entries) zero number h e = subst IsFirst e h.0
  kind_fits (entry ∷ entries) (suc place) number h e = kind_fits entries place number h.1 e

-- the functions of a style's types
pub types_first : (n : ℕ) (value : Option ℕ) → ((number : ℕ) → value ≡ Some number → number < n) → IsFirst n value
types_first n None known = tt
types_first n (Some number) known = known number refl
