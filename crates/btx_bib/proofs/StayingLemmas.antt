-- Which keys of the list stay: the passes change neither the key of a place nor whether it has an entry and enough references.
use Rattle.std.proofs.Common.{◌≡◌, ℕ, nat_le, arith, Bool, true, false, ◌||◌, ◌&&◌, cond, if◌then◌else◌, List, [], ◌∷◌, ◌++◌, map, Option, None, Some, is_some}
use Rattle.std.proofs.Common.{refl, sym, ap, ◌∙◌, append_assoc, append-nil}
use Rattle.std.specs.Prelude.{count_by}
use Rattle.std.specs.Option.{option_map}
use Rattle.std.specs.List.{filter, flat_map}
use Rattle.std.proofs.lemmas.Bool.Decides.{nat_tests}
use Rattle.btx_aux.specs.language.Names.{is_same_key, listed_as}
use Rattle.btx_bib.specs.declared.end.End.{End}
use Rattle.btx_bib.specs.declared.end.End.TheVariants as end
use Rattle.btx_bib.specs.declared.entry.Entry.{Entry}
use Rattle.btx_bib.specs.declared.message.Message.{Message}
use Rattle.btx_bib.specs.declared.slots.Body.{Body}
use Rattle.btx_bib.specs.language.Request.{Request}
use Rattle.btx_bib.specs.language.Entries.{Given, body_of}
use Rattle.btx_bib.specs.language.Stored.{entry_with_key, parents_in}
use Rattle.btx_bib.specs.language.Requests.{asked}
use Rattle.btx_bib.specs.language.Listing.{Slot, list_keys, slot_of, slots_of}
use Rattle.btx_bib.specs.language.Passes.{passed, inherited, inherited_from, checked, without_crossref, is_parent, slot_at, parent_at, after_first}
use Rattle.btx_bib.specs.language.Passes.{after_second, entries_of, entry_at, inherited_values, without_parent, body_values}
use Rattle.btx_bib.specs.language.Known.{Known}
use Rattle.btx_bib.specs.language.Databases.{library_of, library_by}
use Rattle.btx_bib.specs.laws.Laws.{ListIsKept, StarredCitedOrReferred, keeps_entry, list_of}
use Rattle.btx_bib.specs.laws.Listing.{spelled, stays}
use Rattle.btx_bib.specs.laws.Databases.{read_all}
use Rattle.btx_bib.specs.refinement.Requests.{fewest_of}
use Rattle.btx_bib.specs.refinement.Passes.{checked_by, parent_slot, entry_by, with_field_values}
use Rattle.btx_bib.specs.refinement.Stored.{references_by}

-- ---- what the passes leave alone

map-append : {A : Type 0} (f : Slot → A) (xs ys : List Slot) → map f (xs ++ ys) ≡ map f xs ++ map f ys
map-append f [] ys = refl
map-append f (x ∷ xs) ys = ap (λ (rest : List _). f x ∷ rest) (map-append f xs ys)

pub view-next : {A : Type 0} (f : Slot → A) (judge : List Slot → Slot → Slot) → ((slots : List Slot) (slot : Slot) → f (judge slots slot) ≡ f slot)
    → (slot : Slot) (slots done : List Slot)
    → map f ((done ++ judge (done ++ slot ∷ slots) slot ∷ []) ++ slots) ≡ map f (done ++ slot ∷ slots)
view-next f judge keeps slot slots done =
    let judged = judge (done ++ slot ∷ slots) slot in
    ap (map f) (append_assoc done (judged ∷ []) slots)
    ∙ map-append f done (judged ∷ slots)
    ∙ ap (λ (seen : _). map f done ++ seen ∷ map f slots) (keeps (done ++ slot ∷ slots) slot)
    ∙ sym (map-append f done (slot ∷ slots))

pub view-passed : {A : Type 0} (f : Slot → A) (judge : List Slot → Slot → Slot) → ((slots : List Slot) (slot : Slot) → f (judge slots slot) ≡ f slot)
    → (slots done : List Slot)
    → map f (passed judge done slots) ≡ map f (done ++ slots)
view-passed f judge keeps [] done = ap (map f) (sym (append-nil done))
view-passed f judge keeps (slot ∷ slots) done =
    let judged = judge (done ++ slot ∷ slots) slot in
    view-passed f judge keeps slots (done ++ judged ∷ []) ∙ view-next f judge keeps slot slots done

-- a key, and whether its entry stays
abbrev pub seen_as : List ℕ → Bool → Bool → List ℕ × Bool
seen_as key has_entry enough = (key, has_entry && enough)

abbrev pub view : Slot → List ℕ × Bool
view slot = seen_as slot.key (is_some slot.body) slot.stays

same-body : (key : List ℕ) (enough : Bool) (body : Option Body) (values : List (Option (List ℕ))) → seen_as key (is_some (with_field_values body values)) enough
    ≡ seen_as key (is_some body) enough
same-body key enough None values = refl
same-body key enough (Some body) values = refl

view-from : (parent : Option Slot) (slot : Slot) → view (inherited_from parent slot) ≡ view slot
view-from None slot = refl
view-from (Some parent) slot = same-body slot.key slot.stays slot.body (inherited_values parent.key (body_values slot.body) (body_values parent.body))

pub view-inherited : (slots : List Slot) (slot : Slot) → view (inherited slots slot) ≡ view slot
unfolding inherited
view-inherited slots slot = view-from (parent_slot slots (parent_at slot)) slot

view-checked_by : (parent : Option (List ℕ)) (slots : List Slot) (slot : Slot) → view (checked_by parent slots slot) ≡ view slot
view-checked_by None slots slot = refl
view-checked_by (Some key) slots slot = by_test (is_parent (slot_at slots key)) where
  by_test : (b : Bool) → view (if b then slot else without_crossref slot) ≡ view slot
  by_test true = refl
  by_test false = same-body slot.key slot.stays slot.body (without_parent (body_values slot.body))

pub view-checked : (slots : List Slot) (slot : Slot) → view (checked slots slot) ≡ view slot
unfolding checked
view-checked slots slot = view-checked_by (parent_at slot) slots slot

pub views-after : (slots : List Slot) → map view (after_second (after_first slots)) ≡ map view slots
views-after slots = view-passed view checked view-checked (after_first slots) [] ∙ view-passed view inherited view-inherited slots []

-- ---- the entries that stay

-- the keys whose entries stay
abbrev pub chosen_by : List ℕ × Bool → List (List ℕ)
chosen_by seen = if seen.1 then seen.0 ∷ [] else []

abbrev pub chosen : List (List ℕ × Bool) → List (List ℕ)
chosen views = flat_map chosen_by views

abbrev pub kept : List Slot → List (List ℕ)
kept slots = map (λ (entry : Entry). entry.key) (flat_map entry_at slots)

pub kept-chosen : (slots : List Slot) → kept slots ≡ chosen (map view slots)
kept-chosen [] = refl
kept-chosen (slot ∷ slots) = by_body slot.stays slot.body (kept-chosen slots) where
  by_body : (enough : Bool) (body : Option Body) → kept slots ≡ chosen (map view slots)
      → map (λ (entry : Entry). entry.key) (entry_by slot.key enough body ++ flat_map entry_at slots) ≡ chosen_by (seen_as slot.key (is_some body) enough)
      ++ chosen (map view slots)
  by_body enough None rest = rest
  by_body true (Some body) rest = ap (λ (keys : List (List ℕ)). slot.key ∷ keys) rest
  by_body false (Some body) rest = rest

-- ---- the list's keys

has-body : (wanted : Request) (entry : Option Given) → is_some (option_map (body_of wanted) entry) ≡ is_some entry
has-body wanted None = refl
has-body wanted (Some given) = refl

stays-is : (wanted : Request) (stored : List Given) (key : List ℕ) → view (slot_of wanted stored key)
    ≡ seen_as (spelled wanted stored key) (is_some (entry_with_key stored key)) (stays wanted stored key)
unfolding slot_of
stays-is wanted stored key = ap (λ (b : Bool). seen_as (spelled wanted stored key) b (stays wanted stored key)) (has-body wanted (entry_with_key stored key))

slots-chosen : (wanted : Request) (stored : List Given) (keys : List (List ℕ)) → chosen (map view (map (slot_of wanted stored) keys))
    ≡ map (spelled wanted stored) (filter (keeps_entry wanted stored) keys)
slots-chosen wanted stored [] = refl
slots-chosen wanted stored (key ∷ keys) =
    let others = map view (map (slot_of wanted stored) keys) in
    ap (λ (seen : List ℕ × Bool). chosen_by seen ++ chosen others) (stays-is wanted stored key)
    ∙ by_test (keeps_entry wanted stored key) (slots-chosen wanted stored keys) where
      by_test : (b : Bool) → chosen (map view (map (slot_of wanted stored) keys)) ≡ map (spelled wanted stored) (filter (keeps_entry wanted stored) keys)
          → (if b then spelled wanted stored key ∷ [] else []) ++ chosen (map view (map (slot_of wanted stored) keys))
          ≡ map (spelled wanted stored) (cond b (key ∷ filter (keeps_entry wanted stored) keys) (filter (keeps_entry wanted stored) keys))
      by_test true rest = ap (λ (found : List (List ℕ)). spelled wanted stored key ∷ found) rest
      by_test false rest = rest

-- ---- the library

kept-entries : (wanted : Request) (stored : List Given) → map (λ (entry : Entry). entry.key) (entries_of (slots_of wanted stored))
    ≡ map (spelled wanted stored) (filter (keeps_entry wanted stored) (list_keys wanted stored))
unfolding entries_of
kept-entries wanted stored =
    kept-chosen (after_second (after_first (slots_of wanted stored)))
    ∙ ap chosen (views-after (slots_of wanted stored))
    ∙ slots-chosen wanted stored (list_keys wanted stored)

kept-library : (ending : End) (wanted : Request) (known : Known) (messages : List Message) → ending ≡ end.Whole
    → list_of (library_by ending wanted known messages)
    ≡ map (spelled wanted known.stored) (filter (keeps_entry wanted known.stored) (list_keys wanted known.stored))
kept-library end.Whole wanted known messages whole = kept-entries wanted known.stored
kept-library end.FileLimit wanted known messages whole = cc
kept-library end.StringLimit wanted known messages whole = cc

pub list-is-kept : ListIsKept
unfolding library_of
list-is-kept wanted macros databases whole =
    let reading = read_all wanted macros databases in kept-library reading.known.ending wanted reading.known reading.messages whole

-- ---- what a job and its style ask

zero-least : (n : ℕ) → nat_le 0 n ≡ true
zero-least n = by_test (nat_le 0 n) refl where
  by_test : (b : Bool) → nat_le 0 n ≡ b → b ≡ true
  by_test true h = refl
  by_test false h = absurd (grind (arith, nat_tests))

or-true : (a : Bool) → (a || true) ≡ true
or-true true = refl
or-true false = refl

pub starred-cited-or-referred : StarredCitedOrReferred
starred-cited-or-referred style job least stored key = by_star job.all where
  cited : Bool
  cited = is_some (listed_as job.keys key)

  parents : List (List ℕ)
  parents = parents_in (asked style job least) stored

  by_star : (all : Option ℕ) → (cited || nat_le (fewest_of all least) (count_by (is_same_key key) (references_by all (asked style job least) stored)))
      ≡ (is_some all || (cited || nat_le least (count_by (is_same_key key) parents)))
  by_star None = refl
  by_star (Some place) = ap (λ (b : Bool). cited || b) (zero-least 0) ∙ or-true cited
