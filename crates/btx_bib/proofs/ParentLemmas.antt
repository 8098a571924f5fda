-- What entries refer to: after the passes each parent that is left has an entry that stays.
use Rattle.std.proofs.Common.{◌≡◌, ℕ, Bool, true, false, cond, if◌then◌else◌, List, [], ◌∷◌, ◌++◌, map, Option, None, Some, ⊎_elim, refl, sym, ap, subst, ◌∙◌}
use Rattle.std.proofs.Common.{arith}
use Rattle.std.specs.Prelude.{Contains}
use Rattle.std.specs.Str.{bytes_eq}
use Rattle.std.specs.Option.{option_map}
use Rattle.std.specs.List.{find, flat_map, AllByRecursion}
use Rattle.std.proofs.lemmas.List.Elements.{Contains-append_left, Contains-append_right, Contains-append_cases, Contains-push, Contains-push_cases}
use Rattle.btx_text.specs.language.Keys.{folded}
use Rattle.btx_aux.specs.language.Names.{is_same_key}
use Rattle.btx_bib.specs.declared.end.End.{End}
use Rattle.btx_bib.specs.declared.end.End.TheVariants as end
use Rattle.btx_bib.specs.declared.entry.Entry.{Entry}
use Rattle.btx_bib.specs.declared.message.Message.{Message}
use Rattle.btx_bib.specs.declared.slots.Body.{Body}
use Rattle.btx_bib.specs.language.Request.{Request}
use Rattle.btx_bib.specs.language.Entries.{parent_in}
use Rattle.btx_bib.specs.language.Listing.{Slot, slots_of}
use Rattle.btx_bib.specs.language.Passes.{passed, inherited, inherited_from, inherited_values, checked, without_crossref, is_parent, slot_at, parent_at}
use Rattle.btx_bib.specs.language.Passes.{body_values, without_parent, after_first, after_second, entries_of, entry_at}
use Rattle.btx_bib.specs.language.Known.{Known}
use Rattle.btx_bib.specs.language.Databases.{library_of, library_by}
use Rattle.btx_bib.specs.laws.Laws.{list_of}
use Rattle.btx_bib.specs.laws.Parents.{NoReferenceDangles}
use Rattle.btx_bib.proofs.ListedKeyLemmas.{folded-same}
use Rattle.btx_bib.proofs.PassLemmas.{inherited-alone, inherited-by, checked-alone, checked-is, slot_at-same}
use Rattle.btx_bib.proofs.StayingLemmas.{view-next, view-passed, view, view-inherited, view-checked, views-after, chosen, chosen_by, kept, kept-chosen}
use Rattle.btx_bib.specs.laws.Databases.{read_all}
use Rattle.btx_bib.specs.refinement.Passes.{entry_by, with_field_values}

-- ---- a pass judges each place by a list that shows the same

module _ (judge : List Slot → Slot → Slot) (keeps : (slots : List Slot) (slot : Slot) → view (judge slots slot) ≡ view slot) (Before After : Slot → Type 0)
    (views : List (List ℕ × Bool))
    (step : (slots : List Slot) (slot : Slot) → map view slots ≡ views → Before slot → After (judge slots slot)) where
  all-push : (done : List Slot) (slot : Slot) → AllByRecursion After done → After slot → AllByRecursion After (done ++ slot ∷ [])
  all-push [] slot h last = (last, tt)
  all-push (first ∷ done) slot h last = (h.0, all-push done slot h.1 last)

  pub all-passed : (slots done : List Slot) → map view (done ++ slots) ≡ views → AllByRecursion Before slots → AllByRecursion After done
      → AllByRecursion After (passed judge done slots)
  all-passed [] done shows before after = after
  all-passed (slot ∷ slots) done shows before after =
      let judged = judge (done ++ slot ∷ slots) slot in
      all-passed slots (done ++ judged ∷ []) (view-next view judge keeps slot slots done ∙ shows) before.1
      (all-push done judged after (step (done ++ slot ∷ slots) slot shows before.0))

-- ---- the place of a key

pub slot_at-spelled : (slots : List Slot) (key other : List ℕ) → is_same_key key other ≡ true → slot_at slots key ≡ slot_at slots other
slot_at-spelled slots key other same = ap (λ (name : List ℕ). find (λ (slot : Slot). bytes_eq name (folded slot.key)) slots) (folded-same key other same)

pub slot_at-own : (slots : List Slot) (key : List ℕ) (slot : Slot) → slot_at slots key ≡ Some slot → slot_at slots slot.key ≡ Some slot
slot_at-own slots key slot at = sym (slot_at-spelled slots key slot.key (slot_at-same slots key slot at)) ∙ at

-- what a list shows of a key's place
abbrev shown_at : List (List ℕ × Bool) → List ℕ → Option (List ℕ × Bool)
shown_at views key = find (λ (seen : List ℕ × Bool). is_same_key key seen.0) views

shown-slot_at : (slots : List Slot) (key : List ℕ) → shown_at (map view slots) key ≡ option_map view (slot_at slots key)
shown-slot_at [] key = refl
shown-slot_at (slot ∷ slots) key = by_test (is_same_key key slot.key) (shown-slot_at slots key) where
  by_test : (b : Bool) → shown_at (map view slots) key ≡ option_map view (slot_at slots key) → cond b (Some (view slot)) (shown_at (map view slots) key)
      ≡ option_map view (cond b (Some slot) (slot_at slots key))
  by_test true rest = refl
  by_test false rest = rest

shown-by : (slots : List Slot) (views : List (List ℕ × Bool)) (key : List ℕ) (o : Option Slot) → map view slots ≡ views → slot_at slots key ≡ o
    → shown_at views key ≡ option_map view o
shown-by slots views key o shows at = ap (λ (vs : List (List ℕ × Bool)). shown_at vs key) (sym shows) ∙ shown-slot_at slots key ∙ ap (option_map view) at

-- ---- after the first pass a parent in the list is spelled as the list spells it

abbrev IsSpelled : List (List ℕ × Bool) → Slot → Type 0
IsSpelled views slot = (key : List ℕ) (seen : List ℕ × Bool) → parent_at slot ≡ Some key → shown_at views key ≡ Some seen → seen.0 ≡ key

parent-given : (key parent : List ℕ) (body : Option Body) (parents : List (Option (List ℕ))) → parent_in (body_values body) ≡ Some key
    → parent_in (body_values (with_field_values body (inherited_values parent (body_values body) parents))) ≡ Some parent
parent-given key parent None parents has = cc
parent-given key parent (Some body) parents has = by_values body.values parents has where
  by_values : (values parents : List (Option (List ℕ))) → parent_in values ≡ Some key → parent_in (inherited_values parent values parents) ≡ Some parent
  by_values [] parents has = cc
  by_values (value ∷ values) [] has = refl
  by_values (value ∷ values) (other ∷ parents) has = refl

spelled-found : (slots : List Slot) (slot : Slot) (views : List (List ℕ × Bool)) (key : List ℕ) (o : Option Slot) → map view slots ≡ views
    → parent_at slot ≡ Some key → slot_at slots key ≡ o → IsSpelled views (inherited_from o slot)
spelled-found slots slot views key None shows has at other seen some found =
    let same : key ≡ other = let both : Some key ≡ Some other = sym has ∙ some in cc in
    let nothing : shown_at views other ≡ None = subst (λ (k : List ℕ). shown_at views k ≡ None) same (shown-by slots views key None shows at) in
    absurd (let both : Some seen ≡ None = sym found ∙ nothing in cc)
spelled-found slots slot views key (Some parent) shows has at other seen some found =
    let same : parent.key ≡ other = let both : Some parent.key ≡ Some other = sym (parent-given key parent.key slot.body (body_values parent.body) has)
    ∙ some in cc in
    let there : shown_at views other ≡ Some (view parent) = subst (λ (k : List ℕ). shown_at views k ≡ Some (view parent)) same
    (shown-by slots views parent.key (Some parent) shows (slot_at-own slots key parent at)) in
    let both : Some (view parent) ≡ Some seen = sym there ∙ found in
    let is : view parent ≡ seen = cc in
    sym (ap (λ (s : List ℕ × Bool). s.0) is) ∙ same

-- ---- after the second pass each parent that is left has an entry that stays

abbrev Stands : List (List ℕ × Bool) → Slot → Type 0
Stands views slot = (key : List ℕ) → parent_at slot ≡ Some key → shown_at views key ≡ Some (key, true)

spelled-first : (views : List (List ℕ × Bool)) (slots : List Slot) (slot : Slot) → map view slots ≡ views → IsSpelled views (inherited slots slot)
spelled-first views slots slot shows = by_parent (parent_at slot) refl where
  by_parent : (o : Option (List ℕ)) → parent_at slot ≡ o → IsSpelled views (inherited slots slot)
  by_parent None none = subst (IsSpelled views) (sym (inherited-alone slots slot none))
      (λ key seen some found. absurd (let both : None ≡ Some key = sym none ∙ some in cc))
  by_parent (Some key) some = subst (IsSpelled views) (sym (inherited-by slots slot key (slot_at slots key) some refl))
      (spelled-found slots slot views key (slot_at slots key) shows some refl)

cut-none : (slot : Slot) → parent_at (without_crossref slot) ≡ None
cut-none slot = by_body slot.body where
  by_values : (values : List (Option (List ℕ))) → parent_in (without_parent values) ≡ None
  by_values [] = refl
  by_values (value ∷ values) = refl

  by_body : (body : Option Body) → parent_in (body_values (with_field_values body (without_parent (body_values body)))) ≡ None
  by_body None = refl
  by_body (Some body) = by_values body.values

shown-parent : (views : List (List ℕ × Bool)) (key : List ℕ) (o : Option Slot) → is_parent o ≡ true → shown_at views key ≡ option_map view o
    → ((seen : List ℕ × Bool) → shown_at views key ≡ Some seen → seen.0 ≡ key) → shown_at views key ≡ Some (key, true)
shown-parent views key None parent found spelled = cc
shown-parent views key (Some slot) parent found spelled =
    found ∙ ap (λ (b : Bool). Some (slot.key, b)) parent ∙ ap (λ (k : List ℕ). Some (k, true)) (spelled (view slot) found)

stands-by : (views : List (List ℕ × Bool)) (slot : Slot) (key : List ℕ) (b : Bool) → parent_at slot ≡ Some key
    → (b ≡ true → shown_at views key ≡ Some (key, true)) → Stands views (if b then slot else without_crossref slot)
stands-by views slot key true has there other some =
    let both : Some key ≡ Some other = sym has ∙ some in
    let same : key ≡ other = cc in
    subst (λ (k : List ℕ). shown_at views k ≡ Some (k, true)) same (there refl)
stands-by views slot key false has there other some = absurd (let both : None ≡ Some other = sym (cut-none slot) ∙ some in cc)

stands-second : (views : List (List ℕ × Bool)) (slots : List Slot) (slot : Slot) → map view slots ≡ views → IsSpelled views slot
    → Stands views (checked slots slot)
stands-second views slots slot shows spelled = by_parent (parent_at slot) refl where
  by_parent : (o : Option (List ℕ)) → parent_at slot ≡ o → Stands views (checked slots slot)
  by_parent None none = subst (Stands views) (sym (checked-alone slots slot none)) (λ key some. absurd (let both : None ≡ Some key = sym none ∙ some in cc))
  by_parent (Some key) some =
      subst (Stands views) (sym (checked-is slots slot key (slot_at slots key) some refl))
      (stands-by views slot key (is_parent (slot_at slots key)) some
      (λ parent. shown-parent views key (slot_at slots key) parent (shown-by slots views key (slot_at slots key) shows refl)
      (λ seen found. spelled key seen some found)))

any-slots : (slots : List Slot) → AllByRecursion (λ (slot : Slot). Unit {0}) slots
any-slots [] = tt
any-slots (slot ∷ slots) = (tt, any-slots slots)

all-stand : (slots : List Slot) → AllByRecursion (Stands (map view slots)) (after_second (after_first slots))
all-stand slots =
    let spelled = all-passed inherited view-inherited (λ slot. Unit {0}) (IsSpelled (map view slots)) (map view slots)
    (λ slots' slot shows any. spelled-first (map view slots) slots' slot shows) slots [] refl (any-slots slots) tt in
    all-passed checked view-checked (IsSpelled (map view slots)) (Stands (map view slots)) (map view slots)
    (λ slots' slot shows before. stands-second (map view slots) slots' slot shows before)
    (after_first slots) [] (view-passed view inherited view-inherited slots []) spelled tt

-- ---- the entries that stay

pub none-contained : {X : Type 0} (x : X) → Contains [] x → ⊥
none-contained x h = let lt = h.1 in absurd (omega arith)

pub one-contained : {X : Type 0} (y x : X) → Contains (y ∷ []) x → y ≡ x
one-contained y x h = ⊎_elim (λ (none : Contains [] x). absurd (none-contained x none)) (λ (is : y ≡ x). is) (Contains-push_cases [] y x h)

-- the parent of an entry that stays
parent-of-entry : (slots : List Slot) (Q : List ℕ → Type 0) → AllByRecursion (λ (slot : Slot). (key : List ℕ) → parent_at slot ≡ Some key → Q key) slots
    → (entry : Entry) → Contains (flat_map entry_at slots) entry
    → (key : List ℕ) → parent_in entry.values ≡ Some key → Q key
parent-of-entry [] Q all entry there key has = absurd (none-contained entry there)
parent-of-entry (slot ∷ slots) Q all entry there key has =
    ⊎_elim (λ (first : Contains (entry_at slot) entry). of_slot slot.stays slot.body first all.0)
    (λ (later : Contains (flat_map entry_at slots) entry). parent-of-entry slots Q all.1 entry later key has)
    (Contains-append_cases (entry_at slot) (flat_map entry_at slots) entry there) where
      of_slot : (enough : Bool) (body : Option Body) → Contains (entry_by slot.key enough body) entry
          → ((key : List ℕ) → parent_in (body_values body) ≡ Some key → Q key) → Q key
      of_slot enough None first q = absurd (none-contained entry first)
      of_slot false (Some body) first q = absurd (none-contained entry first)
      of_slot true (Some body) first q = q key
          (ap (λ (e : Entry). parent_in e.values) (one-contained (record { key = slot.key; kind = body.kind; values = body.values }) entry first) ∙ has)

chosen-shown : (views : List (List ℕ × Bool)) (key : List ℕ) → shown_at views key ≡ Some (key, true) → Contains (chosen views) key
chosen-shown [] key found = cc
chosen-shown (seen ∷ views) key found = by_test (is_same_key key seen.0) found (chosen-shown views key) where
  by_test : (b : Bool) → cond b (Some seen) (shown_at views key) ≡ Some (key, true) → (shown_at views key ≡ Some (key, true) → Contains (chosen views) key)
      → Contains (chosen_by seen ++ chosen views) key
  by_test true here later =
      let is : seen ≡ (key, true) = cc in
      subst (λ (s : List ℕ × Bool). Contains (chosen_by s ++ chosen views) key) (sym is)
      (Contains-append_left (key ∷ []) (chosen views) key (Contains-push [] key))
  by_test false here later = Contains-append_right (chosen_by seen) (chosen views) key (later here)

stand-kept : (slots : List Slot) (key : List ℕ) → shown_at (map view slots) key ≡ Some (key, true) → Contains (kept (after_second (after_first slots))) key
stand-kept slots key found =
    subst (λ (keys : List (List ℕ)). Contains keys key) (sym (kept-chosen (after_second (after_first slots)) ∙ ap chosen (views-after slots)))
    (chosen-shown (map view slots) key found)

-- ---- the library

entries-stand : (slots : List Slot) (entry : Entry) (parent : List ℕ) → Contains (entries_of slots) entry → parent_in entry.values ≡ Some parent
    → Contains (map (λ (e : Entry). e.key) (entries_of slots)) parent
unfolding entries_of
entries-stand slots entry parent there has =
    stand-kept slots parent (parent-of-entry (after_second (after_first slots)) (λ key. shown_at (map view slots) key ≡ Some (key, true)) (all-stand slots)
    entry there parent has)

library-stands : (ending : End) (wanted : Request) (known : Known) (messages : List Message) (entry : Entry) (parent : List ℕ)
    → Contains (library_by ending wanted known messages).entries entry → parent_in entry.values ≡ Some parent
    → Contains (list_of (library_by ending wanted known messages)) parent
library-stands end.Whole wanted known messages entry parent there has = entries-stand (slots_of wanted known.stored) entry parent there has
library-stands end.FileLimit wanted known messages entry parent there has = absurd (none-contained entry there)
library-stands end.StringLimit wanted known messages entry parent there has = absurd (none-contained entry there)

pub no-reference-dangles : NoReferenceDangles
unfolding library_of
no-reference-dangles wanted macros databases entry parent there has =
    let reading = read_all wanted macros databases in library-stands reading.known.ending wanted reading.known reading.messages entry parent there has
