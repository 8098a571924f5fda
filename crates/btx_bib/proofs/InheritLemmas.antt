-- The entries of a library have the values that the first pass gives them.
use Rattle.std.proofs.Common.{◌≡◌, ◌<◌, ℕ, zero, suc, Bool, true, false, cond, if◌then◌else◌, List, [], ◌∷◌, map, length, Option, None, Some, ⊎_elim, refl, sym}
use Rattle.std.proofs.Common.{ap, subst, ◌∙◌}
use Rattle.std.specs.Prelude.{Contains}
use Rattle.std.specs.Str.{bytes_eq}
use Rattle.std.specs.Option.{option_map}
use Rattle.std.specs.List.{find, flat_map, AllByRecursion, IsDistinct}
use Rattle.std.proofs.lemmas.List.Elements.{Contains-append_cases}
use Rattle.std.proofs.lemmas.Map.Keys.{IsDistinct-head, IsDistinct-tail}
use Rattle.btx_text.specs.language.Keys.{folded}
use Rattle.btx_aux.specs.language.Names.{is_same_key}
use Rattle.btx_bib.specs.declared.end.End.{End}
use Rattle.btx_bib.specs.declared.end.End.TheVariants as end
use Rattle.btx_bib.specs.declared.entry.Entry.{Entry}
use Rattle.btx_bib.specs.declared.message.Message.{Message}
use Rattle.btx_bib.specs.declared.slots.Body.{Body}
use Rattle.btx_bib.specs.language.Values.{field_value}
use Rattle.btx_bib.specs.language.Request.{Request}
use Rattle.btx_bib.specs.language.Entries.{Given, KeptField, values_from, body_of, parent_in}
use Rattle.btx_bib.specs.language.Stored.{entry_with_key}
use Rattle.btx_bib.specs.language.Listing.{Slot, list_keys, slot_of, slots_of}
use Rattle.btx_bib.specs.language.Passes.{checked, without_crossref, is_parent, slot_at, parent_at, body_values, without_parent, after_first, after_second}
use Rattle.btx_bib.specs.language.Passes.{entries_of, entry_at}
use Rattle.btx_bib.specs.refinement.Steps.{lower_keys}
use Rattle.btx_bib.specs.language.Known.{Known}
use Rattle.btx_bib.specs.language.Databases.{library_of, library_by}
use Rattle.btx_bib.specs.laws.Parents.{values_by, declared_value, parent_by_key, OwnStands, IsParentsOwn, IsParents, InheritsFromParent}
use Rattle.btx_bib.proofs.ListedKeyLemmas.{same_key_equiv}
use Rattle.btx_bib.proofs.StayingLemmas.{view-passed}
use Rattle.btx_bib.proofs.ListLemmas.{distinct-names}
use Rattle.btx_bib.proofs.ParentLemmas.{none-contained, one-contained}
use Rattle.btx_bib.proofs.HeirLemmas.{first-grows, first-inherits, first-takes}
use Rattle.btx_bib.specs.laws.Databases.{read_all}
use Rattle.btx_bib.specs.refinement.Passes.{checked_by, entry_by, with_field_values}

-- ---- the second pass leaves the fields after `crossref` alone

abbrev shown_as : List ℕ → Option (List ℕ) → List ℕ × Option (List ℕ)
shown_as key value = (key, value)

abbrev shows : ℕ → Slot → List ℕ × Option (List ℕ)
shows field slot = shown_as slot.key (field_value (suc field) (body_values slot.body))

cut-shows : (field : ℕ) (slot : Slot) → shows field (without_crossref slot) ≡ shows field slot
cut-shows field slot = by_body slot.body where
  by_values : (values : List (Option (List ℕ))) → field_value (suc field) (without_parent values) ≡ field_value (suc field) values
  by_values [] = refl
  by_values (value ∷ values) = refl

  by_body : (body : Option Body) → shown_as slot.key (field_value (suc field) (body_values (with_field_values body (without_parent (body_values body)))))
      ≡ shown_as slot.key (field_value (suc field) (body_values body))
  by_body None = refl
  by_body (Some body) = ap (shown_as slot.key) (by_values body.values)

checked-by-shows : (field : ℕ) (parent : Option (List ℕ)) (slots : List Slot) (slot : Slot) → shows field (checked_by parent slots slot) ≡ shows field slot
checked-by-shows field None slots slot = refl
checked-by-shows field (Some key) slots slot = by_test (is_parent (slot_at slots key)) where
  by_test : (b : Bool) → shows field (if b then slot else without_crossref slot) ≡ shows field slot
  by_test true = refl
  by_test false = cut-shows field slot

checked-shows : (field : ℕ) (slots : List Slot) (slot : Slot) → shows field (checked slots slot) ≡ shows field slot
unfolding checked
checked-shows field slots slot = checked-by-shows field (parent_at slot) slots slot

-- the value that is shown for a key
abbrev shown_by : Option (List ℕ × Option (List ℕ)) → Option (List ℕ)
shown_by None = None
shown_by (Some shown) = shown.1

abbrev shown_for : List (List ℕ × Option (List ℕ)) → List ℕ → Option (List ℕ)
shown_for shown key = shown_by (find (λ (s : List ℕ × Option (List ℕ)). is_same_key key s.0) shown)

shown-field : (field : ℕ) (slots : List Slot) (key : List ℕ) → declared_value slots key field ≡ shown_for (map (shows field) slots) key
shown-field field [] key = refl
shown-field field (slot ∷ slots) key = by_test (is_same_key key slot.key) (shown-field field slots key) where
  others : Option (List ℕ × Option (List ℕ))
  others = find (λ (s : List ℕ × Option (List ℕ)). is_same_key key s.0) (map (shows field) slots)

  by_test : (b : Bool) → field_value (suc field) (values_by (slot_at slots key)) ≡ shown_by others
      → field_value (suc field) (values_by (cond b (Some slot) (slot_at slots key))) ≡ shown_by (cond b (Some (shows field slot)) others)
  by_test true rest = refl
  by_test false rest = rest

second-field : (slots : List Slot) (key : List ℕ) (field : ℕ) → declared_value (after_second slots) key field ≡ declared_value slots key field
second-field slots key field =
    shown-field field (after_second slots) key
    ∙ ap (λ (shown : List (List ℕ × Option (List ℕ))). shown_for shown key) (view-passed (shows field) checked (checked-shows field) slots [])
    ∙ sym (shown-field field slots key)

-- ---- the value of an entry that stays

apart-entry : (key : List ℕ) (slots : List Slot) (entry : Entry) → AllByRecursion (λ (other : List ℕ). bytes_eq (folded key) other ≡ false) (lower_keys slots)
    → Contains (flat_map entry_at slots) entry → is_same_key key entry.key ≡ false
apart-entry key [] entry apart there = absurd (none-contained entry there)
apart-entry key (slot ∷ slots) entry apart there =
    ⊎_elim (λ (first : Contains (entry_at slot) entry). of_slot slot.stays slot.body first)
    (λ (later : Contains (flat_map entry_at slots) entry). apart-entry key slots entry apart.1 later)
    (Contains-append_cases (entry_at slot) (flat_map entry_at slots) entry there) where
      of_slot : (enough : Bool) (body : Option Body) → Contains (entry_by slot.key enough body) entry → is_same_key key entry.key ≡ false
      of_slot enough None first = absurd (none-contained entry first)
      of_slot false (Some body) first = absurd (none-contained entry first)
      of_slot true (Some body) first = subst (λ (e : Entry). is_same_key key e.key ≡ false)
          (one-contained (record { key = slot.key; kind = body.kind; values = body.values }) entry first) apart.0

entry-field : (slots : List Slot) (entry : Entry) (field : ℕ) → IsDistinct bytes_eq (lower_keys slots) → Contains (flat_map entry_at slots) entry
    → declared_value slots entry.key field ≡ field_value (suc field) entry.values
entry-field [] entry field distinct there = absurd (none-contained entry there)
entry-field (slot ∷ slots) entry field distinct there =
    ⊎_elim (λ (first : Contains (entry_at slot) entry). of_slot slot.stays slot.body refl first)
    (λ (later : Contains (flat_map entry_at slots) entry).
    let apart : is_same_key entry.key slot.key ≡ false =
    same_key_equiv.symm entry.key slot.key ∙ apart-entry slot.key slots entry (IsDistinct-head bytes_eq (folded slot.key) (lower_keys slots) distinct) later in
    ap (λ (b : Bool). field_value (suc field) (values_by (cond b (Some slot) (slot_at slots entry.key)))) apart
    ∙ entry-field slots entry field (IsDistinct-tail bytes_eq (folded slot.key) (lower_keys slots) distinct) later)
    (Contains-append_cases (entry_at slot) (flat_map entry_at slots) entry there) where
      found : List ℕ → Option (List ℕ)
      found key = field_value (suc field) (values_by (cond (is_same_key key slot.key) (Some slot) (slot_at slots key)))

      of_entry : (values : List (Option (List ℕ))) (made : Entry) → body_values slot.body ≡ values → made.key ≡ slot.key → made.values ≡ values → made ≡ entry
          → found entry.key ≡ field_value (suc field) entry.values
      of_entry values made has key is same =
          subst (λ (e : Entry). found e.key ≡ field_value (suc field) e.values) same
          (ap found key ∙ ap (λ (b : Bool). field_value (suc field) (values_by (cond b (Some slot) (slot_at slots slot.key)))) (same_key_equiv.refl slot.key)
          ∙ ap (field_value (suc field)) (has ∙ sym is))

      of_slot : (enough : Bool) (body : Option Body) → slot.body ≡ body → Contains (entry_by slot.key enough body) entry
          → found entry.key ≡ field_value (suc field) entry.values
      of_slot enough None is first = absurd (none-contained entry first)
      of_slot false (Some body) is first = absurd (none-contained entry first)
      of_slot true (Some body) is first =
          let made : Entry = record { key = slot.key; kind = body.kind; values = body.values } in
          of_entry body.values made (ap body_values is) refl refl (one-contained made entry first)

-- ---- how many values an entry of the list has

length-from : (wanted : Request) (fields : List KeptField) (first count : ℕ) → length (values_from wanted fields first count) ≡ count
length-from wanted fields first zero = refl
length-from wanted fields first (suc count) = ap suc (length-from wanted fields (suc first) count)

abbrev HasAll : Request → Slot → Type 0
HasAll wanted slot = (parent : List ℕ) → parent_at slot ≡ Some parent → length (body_values slot.body) ≡ wanted.count

has-all : (wanted : Request) (stored : List Given) (key : List ℕ) → HasAll wanted (slot_of wanted stored key)
unfolding slot_of body_of
has-all wanted stored key = by_entry (entry_with_key stored key) where
  by_entry : (o : Option Given) (parent : List ℕ) → parent_in (body_values (option_map (body_of wanted) o)) ≡ Some parent
      → length (body_values (option_map (body_of wanted) o)) ≡ wanted.count
  by_entry None parent some = cc
  by_entry (Some given) parent some = length-from wanted given.fields 0 wanted.count

found-has-all : (wanted : Request) (stored : List Given) (keys : List (List ℕ)) (key : List ℕ) (slot : Slot) → slot_at (map (slot_of wanted stored) keys) key
    ≡ Some slot → HasAll wanted slot
found-has-all wanted stored [] key slot at = cc
found-has-all wanted stored (k ∷ keys) key slot at =
    by_test (is_same_key key (slot_of wanted stored k).key) at (found-has-all wanted stored keys key slot) where
      by_test : (b : Bool) → cond b (Some (slot_of wanted stored k)) (slot_at (map (slot_of wanted stored) keys) key) ≡ Some slot
          → (slot_at (map (slot_of wanted stored) keys) key ≡ Some slot → HasAll wanted slot) → HasAll wanted slot
      by_test true at later = let is : slot_of wanted stored k ≡ slot = cc in subst (HasAll wanted) is (has-all wanted stored k)
      by_test false at later = later at

-- ---- the library

abbrev Inherits : Request → List Slot → List ℕ → ℕ → Option (List ℕ) → Type 0
Inherits wanted given key field found = OwnStands given key field found × IsParentsOwn wanted.count given key field found × IsParents given key field found

parent-there : (slots : List Slot) (key parent : List ℕ) → parent_by_key slots key ≡ Some parent → (slot : Slot) × (slot_at slots key ≡ Some slot)
    × (parent_at slot ≡ Some parent)
parent-there slots key parent some = by_slot (slot_at slots key) refl some where
  by_slot : (o : Option Slot) → slot_at slots key ≡ o → parent_in (values_by o) ≡ Some parent → (slot : Slot) × (slot_at slots key ≡ Some slot)
      × (parent_at slot ≡ Some parent)
  by_slot None at some = cc
  by_slot (Some slot) at some = (slot, at, some)

first-inherited : (wanted : Request) (stored : List Given) (key : List ℕ) (field : ℕ)
    → Inherits wanted (slots_of wanted stored) key field (declared_value (after_first (slots_of wanted stored)) key field)
first-inherited wanted stored key field = let given = slots_of wanted stored in (
  first-grows given key field,
  λ parent value within lacks some has.
      (let there = parent-there given key parent some in
      first-takes given key parent there.0 field value there.1 there.2
      (subst (λ (n : ℕ). suc field < n) (sym (found-has-all wanted stored (list_keys wanted stored) key there.0 there.1 parent there.2)) within)
      (ap (λ (o : Option Slot). field_value (suc field) (values_by o)) (sym there.1) ∙ lacks) has),
  first-inherits given key field,
)

entries-inherit : (wanted : Request) (stored : List Given) (entry : Entry) (field : ℕ) → Contains (entries_of (slots_of wanted stored)) entry
    → Inherits wanted (slots_of wanted stored) entry.key field (field_value (suc field) entry.values)
unfolding entries_of
entries-inherit wanted stored entry field there =
    let list = after_second (after_first (slots_of wanted stored)) in
    subst (Inherits wanted (slots_of wanted stored) entry.key field) (sym (second-field (after_first (slots_of wanted stored)) entry.key field)
    ∙ entry-field list entry field (distinct-names wanted stored) there)
    (first-inherited wanted stored entry.key field)

library-inherits : (ending : End) (wanted : Request) (known : Known) (messages : List Message) (entry : Entry) (field : ℕ)
    → Contains (library_by ending wanted known messages).entries entry
    → Inherits wanted (slots_of wanted known.stored) entry.key field (field_value (suc field) entry.values)
library-inherits end.Whole wanted known messages entry field there = entries-inherit wanted known.stored entry field there
library-inherits end.FileLimit wanted known messages entry field there = absurd (none-contained entry there)
library-inherits end.StringLimit wanted known messages entry field there = absurd (none-contained entry there)

pub inherits-from-parent : InheritsFromParent
unfolding library_of
inherits-from-parent wanted macros databases entry field there =
    let reading = read_all wanted macros databases in library-inherits reading.known.ending wanted reading.known reading.messages entry field there
