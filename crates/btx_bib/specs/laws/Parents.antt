-- Laws of cross-references, in the words of their subject.
use Rattle.std.specs.Prelude.{◌≡◌, ◌<◌, ℕ, suc, true, List, [], Contains, Option, None, Some, is_some}
use Rattle.btx_bib.specs.declared.end.End.TheVariants.{Whole}
use Rattle.btx_bib.specs.declared.entry.Entry.{Entry}
use Rattle.btx_bib.specs.language.Values.{field_value}
use Rattle.btx_bib.specs.language.Entries.{parent_in}
use Rattle.btx_bib.specs.language.Stored.{entry_with_key, parents_in}
use Rattle.btx_bib.specs.language.Listing.{Slot, slots_of}
use Rattle.btx_bib.specs.language.Passes.{body_values, slot_at, after_first}
use Rattle.btx_bib.specs.language.Request.{Request}
use Rattle.btx_bib.specs.language.Messages.{Database}
use Rattle.btx_bib.specs.language.Databases.{library_of}
use Rattle.btx_bib.specs.laws.Laws.{list_of, stored_by}
use Rattle.btx_bib.specs.laws.Databases.{read_all}
use Rattle.btx_bib.specs.laws.Stored.{is_any_key}

-- ---- what an entry refers to

-- what stands as an entry's `crossref` is the key of an entry of the list, spelled as the list spells it
abbrev pub NoReferenceDangles : Type 0
NoReferenceDangles = (wanted : Request) (macros : List (List ℕ × List ℕ)) (databases : List Database) (entry : Entry) (parent : List ℕ)
    → (let library = library_of wanted macros databases in Contains library.entries entry → parent_in entry.values ≡ Some parent
    → Contains (list_of library) parent)

-- if `fewest` is 0, as with `--min-crossrefs 0` or with `*`, a parent that has an entry stays in the list
abbrev pub NoParentLeaves : Type 0
NoParentLeaves = (wanted : Request) (macros : List (List ℕ × List ℕ)) (databases : List Database) (parent : List ℕ)
    → (read_all wanted macros databases).known.ending ≡ Whole → wanted.fewest ≡ 0
    → is_any_key (parents_in wanted (stored_by wanted macros databases)) parent ≡ true
    → is_some (entry_with_key (stored_by wanted macros databases) parent) ≡ true → is_any_key (list_of (library_of wanted macros databases)) parent ≡ true

-- ---- what an entry takes from its parent

-- the values of the entry at a place of a list, if there is such a place
abbrev pub values_by : Option Slot → List (Option (List ℕ))
values_by None = []
values_by (Some slot) = body_values slot.body

-- the key of the parent of the entry of a key in a list
abbrev pub parent_by_key : List Slot → List ℕ → Option (List ℕ)
parent_by_key slots key = parent_in (values_by (slot_at slots key))

-- the value of a declared field of the entry of a key in a list, where 0 is the first field after `crossref`
abbrev pub declared_value : List Slot → List ℕ → ℕ → Option (List ℕ)
declared_value slots key field = field_value (suc field) (values_by (slot_at slots key))

-- if the entry of `key` has a value of its own for a field before the passes, in the list `given`, then `found` is that value
abbrev pub OwnStands : List Slot → List ℕ → ℕ → Option (List ℕ) → Type 0
OwnStands given key field found = (value : List ℕ) → declared_value given key field ≡ Some value → found ≡ Some value

-- if the entry of `key` has no value of its own for a field, and its parent has one of its own, then `found` is the parent's value
abbrev pub IsParentsOwn : ℕ → List Slot → List ℕ → ℕ → Option (List ℕ) → Type 0
IsParentsOwn count given key field found = (parent value : List ℕ) → suc field < count → declared_value given key field ≡ None
    → parent_by_key given key ≡ Some parent
    → declared_value given parent field ≡ Some value → found ≡ Some value

-- if the entry of `key` has no value of its own for a field, and `found` is a value, then its parent has that value after the first pass
abbrev pub IsParents : List Slot → List ℕ → ℕ → Option (List ℕ) → Type 0
IsParents given key field found = (value : List ℕ) → declared_value given key field ≡ None → found ≡ Some value
    → (parent : List ℕ) × (parent_by_key (after_first given) key ≡ Some parent) × (declared_value (after_first given) parent field ≡ Some value)

-- the value of an entry of the library is its own, or its parent's
abbrev pub InheritsFromParent : Type 0
InheritsFromParent = (wanted : Request) (macros : List (List ℕ × List ℕ)) (databases : List Database) (entry : Entry) (field : ℕ)
    → Contains (library_of wanted macros databases).entries entry
    → (let given = slots_of wanted (stored_by wanted macros databases) in let found = field_value (suc field) entry.values in
    OwnStands given entry.key field found × IsParentsOwn wanted.count given entry.key field found × IsParents given entry.key field found)
