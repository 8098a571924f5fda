-- The keys of the list: no two are one, whose case is ignored.
use Rattle.std.proofs.Common.{◌≡◌, ℕ, Bool, true, false, List, [], ◌∷◌, ◌++◌, map, fold, Option, None, Some, refl, sym, ap, subst, ◌∙◌, append_assoc}
use Rattle.std.proofs.Common.{append-nil}
use Rattle.std.specs.Str.{bytes_eq}
use Rattle.std.specs.List.{flat_map, AllByRecursion, IsDistinct}
use Rattle.btx_text.specs.language.Keys.{folded}
use Rattle.btx_aux.specs.language.Names.{is_same_key, with_key}
use Rattle.btx_bib.specs.declared.end.End.{End}
use Rattle.btx_bib.specs.declared.end.End.TheVariants as end
use Rattle.btx_bib.specs.declared.entry.Entry.{Entry}
use Rattle.btx_bib.specs.declared.message.Message.{Message}
use Rattle.btx_bib.specs.declared.slots.Body.{Body}
use Rattle.btx_bib.specs.language.Request.{Request}
use Rattle.btx_bib.specs.language.Entries.{Given}
use Rattle.btx_bib.specs.language.Listing.{Slot, first_cited, added, last_cited, list_keys, slots_of}
use Rattle.btx_bib.specs.language.Passes.{passed, inherited, checked, after_first, after_second, entries_of, entry_at}
use Rattle.btx_bib.specs.refinement.Steps.{lower_keys}
use Rattle.btx_bib.specs.language.Known.{Known}
use Rattle.btx_bib.specs.language.Databases.{library_of, library_by}
use Rattle.btx_bib.specs.laws.Laws.{KeysDiffer, list_of}
use Rattle.btx_bib.proofs.ListedKeyLemmas.{distinct-fold, distinct-none}
use Rattle.btx_bib.proofs.PassLemmas.{key-inherited, key-checked}
use Rattle.btx_bib.proofs.StoringLemmas.{names-listing, slots-listing}
use Rattle.btx_bib.specs.laws.Databases.{read_all}
use Rattle.btx_bib.specs.refinement.Passes.{entry_by}

-- ---- the passes leave the keys alone

names-append : (xs ys : List Slot) → lower_keys (xs ++ ys) ≡ lower_keys xs ++ lower_keys ys
names-append [] ys = refl
names-append (x ∷ xs) ys = ap (λ (rest : List (List ℕ)). folded x.key ∷ rest) (names-append xs ys)

names-passed : (judge : List Slot → Slot → Slot) → ((slots : List Slot) (slot : Slot) → (judge slots slot).key ≡ slot.key) → (slots done : List Slot)
    → lower_keys (passed judge done slots) ≡ lower_keys (done ++ slots)
names-passed judge keeps [] done = ap lower_keys (sym (append-nil done))
names-passed judge keeps (slot ∷ slots) done =
    let judged = judge (done ++ slot ∷ slots) slot in
    names-passed judge keeps slots (done ++ judged ∷ [])
    ∙ ap lower_keys (append_assoc done (judged ∷ []) slots)
    ∙ names-append done (judged ∷ slots)
    ∙ ap (λ (key : List ℕ). lower_keys done ++ folded key ∷ lower_keys slots) (keeps (done ++ slot ∷ slots) slot)
    ∙ sym (names-append done (slot ∷ slots))

names-after : (slots : List Slot) → lower_keys (after_second (after_first slots)) ≡ lower_keys slots
names-after slots = names-passed checked key-checked (after_first slots) [] ∙ names-passed inherited key-inherited slots []

-- ---- keys that differ

apart-folded : (key : List ℕ) (keys : List (List ℕ)) → AllByRecursion (λ (other : List ℕ). is_same_key key other ≡ false) keys
    → AllByRecursion (λ (other : List ℕ). bytes_eq (folded key) other ≡ false) (map folded keys)
apart-folded key [] h = tt
apart-folded key (other ∷ keys) h = (h.0, apart-folded key keys h.1)

distinct-folded : (keys : List (List ℕ)) → IsDistinct is_same_key keys → IsDistinct bytes_eq (map folded keys)
unfolding IsDistinct
distinct-folded [] h = tt
distinct-folded (key ∷ keys) h = (apart-folded key keys h.0, distinct-folded keys h.1)

-- the keys of the entries that stay
abbrev kept : List Slot → List (List ℕ)
kept slots = map (λ (entry : Entry). entry.key) (flat_map entry_at slots)

apart-kept : (key : List ℕ) (slots : List Slot) → AllByRecursion (λ (other : List ℕ). bytes_eq (folded key) other ≡ false) (lower_keys slots)
    → AllByRecursion (λ (other : List ℕ). is_same_key key other ≡ false) (kept slots)
apart-kept key [] h = tt
apart-kept key (slot ∷ slots) h = by_body slot.stays slot.body (apart-kept key slots h.1) where
  by_body : (enough : Bool) (body : Option Body) → AllByRecursion (λ (other : List ℕ). is_same_key key other ≡ false) (kept slots)
      → AllByRecursion (λ (other : List ℕ). is_same_key key other ≡ false)
      (map (λ (entry : Entry). entry.key) (entry_by slot.key enough body ++ flat_map entry_at slots))
  by_body enough None rest = rest
  by_body true (Some body) rest = (h.0, rest)
  by_body false (Some body) rest = rest

distinct-kept : (slots : List Slot) → IsDistinct bytes_eq (lower_keys slots) → IsDistinct is_same_key (kept slots)
unfolding IsDistinct
distinct-kept [] h = tt
distinct-kept (slot ∷ slots) h = by_body slot.stays slot.body (apart-kept slot.key slots h.0) (distinct-kept slots h.1) where
  by_body : (enough : Bool) (body : Option Body) → AllByRecursion (λ (other : List ℕ). is_same_key slot.key other ≡ false) (kept slots)
      → IsDistinct is_same_key (kept slots)
      → IsDistinct is_same_key (map (λ (entry : Entry). entry.key) (entry_by slot.key enough body ++ flat_map entry_at slots))
  by_body enough None apart rest = rest
  by_body true (Some body) apart rest = (apart, rest)
  by_body false (Some body) apart rest = rest

-- ---- the list

distinct-keys : (wanted : Request) (stored : List Given) → IsDistinct is_same_key (list_keys wanted stored)
distinct-keys wanted stored =
    distinct-fold (last_cited wanted.all wanted.cited) (fold with_key [] (first_cited wanted.all wanted.cited ++ added wanted.all wanted stored))
    (distinct-fold (first_cited wanted.all wanted.cited ++ added wanted.all wanted stored) [] distinct-none)

pub distinct-names : (wanted : Request) (stored : List Given) → IsDistinct bytes_eq (lower_keys (after_second (after_first (slots_of wanted stored))))
distinct-names wanted stored =
    let named : map folded (list_keys wanted stored) ≡ lower_keys (slots_of wanted stored) = names-listing wanted stored (list_keys wanted stored)
    ∙ ap lower_keys (slots-listing wanted stored) in
    subst (λ (names : List (List ℕ)). IsDistinct bytes_eq names) (named ∙ sym (names-after (slots_of wanted stored)))
    (distinct-folded (list_keys wanted stored) (distinct-keys wanted stored))

distinct-entries : (wanted : Request) (stored : List Given) → IsDistinct is_same_key (map (λ (entry : Entry). entry.key) (entries_of (slots_of wanted stored)))
unfolding entries_of
distinct-entries wanted stored = distinct-kept (after_second (after_first (slots_of wanted stored))) (distinct-names wanted stored)

distinct-library : (ending : End) (wanted : Request) (known : Known) (messages : List Message)
    → IsDistinct is_same_key (list_of (library_by ending wanted known messages))
distinct-library end.Whole wanted known messages = distinct-entries wanted known.stored
distinct-library end.FileLimit wanted known messages = distinct-none
distinct-library end.StringLimit wanted known messages = distinct-none

pub keys-differ : KeysDiffer
unfolding library_of
keys-differ wanted macros databases =
    let reading = read_all wanted macros databases in distinct-library reading.known.ending wanted reading.known reading.messages
