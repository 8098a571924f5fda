-- The list with the cited keys that it begins with: no two of them are equal without case, so each has a place.
use Rattle.std.proofs.Common.{◌≡◌, ℕ, zero, suc, arith, ◌≤◌, Bool, true, false, if◌then◌else◌, List, [], ◌∷◌, ◌++◌, length, map, take, Option, None, Some, refl}
use Rattle.std.proofs.Common.{sym, ap, ◌∙◌, subst, append_assoc, append-nil}
use Rattle.std.specs.Option.{option_map}
use Rattle.std.specs.List.{AllByRecursion, IsDistinct}
use Rattle.std.specs.Str.{bytes_eq}
use Rattle.std.proofs.lemmas.Cmp.{nat_list_eq_equiv}
use Rattle.std.proofs.lemmas.List.{length-map, map-append}
use Rattle.btx_text.specs.language.Keys.{folded}
use Rattle.btx_aux.specs.language.Names.{is_same_key}
use Rattle.btx_aux.specs.refinement.Entries.{Bytes, texts_of}
use Rattle.btx_bib.specs.declared.draft.ListBuilder.{ListBuilder}
use Rattle.btx_bib.specs.declared.slots.Slot.{Slot}
use Rattle.btx_bib.specs.language.Listing.{first_cited}
use Rattle.btx_bib.specs.language.Request.{Request}
use Rattle.btx_bib.specs.refinement.Drafts.{cited_all, cited_at, empty, open_slot}
use Rattle.btx_bib.specs.refinement.Finding.{first_place}

-- the list that has exactly these cited keys
abbrev listed : Request → List (List ℕ) → ListBuilder
listed wanted keys = record { names = map folded keys; slots = map (open_slot wanted true 0) keys }

-- ---- no two keys are equal without case

all-at : {A : Type 0} (P : A → Type 0) (xs ys : List A) (y : A) → AllByRecursion P (xs ++ y ∷ ys) → P y
all-at P [] ys y all = all.0
all-at P (x ∷ xs) ys y all = all-at P xs ys y all.1

all-take : {A : Type 0} (P : A → Type 0) (n : ℕ) (xs : List A) → AllByRecursion P xs → AllByRecursion P (take n xs)
all-take P zero xs all = tt
all-take P (suc n) [] all = tt
all-take P (suc n) (x ∷ xs) all = (all.0, all-take P n xs all.1)

distinct-take : {A : Type 0} (same : A → A → Bool) (n : ℕ) (xs : List A) → IsDistinct same xs → IsDistinct same (take n xs)
unfolding IsDistinct
distinct-take same zero xs distinct = tt
distinct-take same (suc n) [] distinct = tt
distinct-take same (suc n) (x ∷ xs) distinct = (all-take (λ (y : _). same x y ≡ false) n xs distinct.0, distinct-take same n xs distinct.1)

distinct-first : (all : Option ℕ) (keys : List (List ℕ)) → IsDistinct is_same_key keys → IsDistinct is_same_key (first_cited all keys)
distinct-first None keys distinct = distinct
distinct-first (Some place) keys distinct = distinct-take is_same_key place keys distinct

-- a key has no place among those before it
apart : (before after : List (List ℕ)) (key : List ℕ) → IsDistinct is_same_key (before ++ key ∷ after) → first_place (bytes_eq (folded key)) (map folded before)
    ≡ None
unfolding IsDistinct
apart [] after key distinct = refl
apart (other ∷ before) after key distinct =
    let differ = sym (nat_list_eq_equiv.symm (folded other) (folded key)) ∙ all-at (λ (y : List ℕ). is_same_key other y ≡ false) before after key distinct.0 in
    ap (λ (b : Bool). if b then Some 0 else option_map suc (first_place (bytes_eq (folded key)) (map folded before))) differ
    ∙ ap (option_map suc) (apart before after key distinct.1)

-- ---- the list

cited_at-new : (wanted : Request) (before : List (List ℕ)) (key : List ℕ) → cited_at wanted key (listed wanted before) None ≡ listed wanted (before ++ key ∷ [])
cited_at-new wanted before key =
    ap (λ (names : List (List ℕ)). record { names = names; slots = map (open_slot wanted true 0) before ++ open_slot wanted true 0 key ∷ [] })
    (sym (map-append folded before (key ∷ [])))
    ∙ ap (λ (slots : List Slot). record { names = map folded (before ++ key ∷ []); slots = slots })
    (sym (map-append (open_slot wanted true 0) before (key ∷ [])))

cited-apart : (wanted : Request) (before keys : List (List ℕ)) → IsDistinct is_same_key (before ++ keys) → cited_all wanted (listed wanted before) keys
    ≡ listed wanted (before ++ keys)
cited-apart wanted before [] distinct = ap (listed wanted) (sym (append-nil before))
cited-apart wanted before (key ∷ keys) distinct =
    let joined = append_assoc before (key ∷ []) keys in
    ap (λ (place : Option ℕ). cited_all wanted (cited_at wanted key (listed wanted before) place) keys) (apart before keys key distinct)
    ∙ ap (λ (draft : ListBuilder). cited_all wanted draft keys) (cited_at-new wanted before key)
    ∙ cited-apart wanted (before ++ key ∷ []) keys (subst (IsDistinct is_same_key) (sym joined) distinct)
    ∙ ap (listed wanted) joined

-- ---- its names are the first of the job's

take-all : (keys : List (List ℕ)) → take (length keys) (map folded keys) ≡ map folded keys
take-all [] = refl
take-all (key ∷ keys) = ap (λ (rest : List (List ℕ)). folded key ∷ rest) (take-all keys)

take-first : (n : ℕ) (keys : List (List ℕ)) → take (length (take n keys)) (map folded keys) ≡ map folded (take n keys)
take-first zero keys = refl
take-first (suc n) [] = refl
take-first (suc n) (key ∷ keys) = ap (λ (rest : List (List ℕ)). folded key ∷ rest) (take-first n keys)

first-names : (all : Option ℕ) (keys : List (List ℕ)) → take (length (first_cited all keys)) (map folded keys) ≡ map folded (first_cited all keys)
first-names None keys = take-all keys
first-names (Some place) keys = take-first place keys

length-first : (n : ℕ) (keys : List (List ℕ)) → length (take n keys) ≤ length keys
length-first zero keys = omega arith
length-first (suc n) [] = omega arith
length-first (suc n) (key ∷ keys) = let rest = length-first n keys in omega (arith, rest)

pub first-within : (all : Option ℕ) (keys : List (List ℕ)) (cited : List Bytes) → texts_of cited ≡ first_cited all keys → length cited ≤ length keys
first-within None keys cited is = let same = sym (length-map cited (λ (b : Bytes). b.items)) ∙ ap length is in omega (arith, same)
first-within (Some place) keys cited is =
    let same = sym (length-map cited (λ (b : Bytes). b.items)) ∙ ap length is in
    let within = length-first place keys in
    omega (arith, same, within)

pub cited-first : (wanted : Request) (names : List (List ℕ)) (slots : List Slot) (cited : List Bytes) → IsDistinct is_same_key wanted.cited
    → texts_of cited ≡ first_cited wanted.all wanted.cited
    → names ≡ take (length cited) (map folded wanted.cited) → slots ≡ map (open_slot wanted true 0) (texts_of cited) → record { names = names; slots = slots }
    ≡ cited_all wanted empty (first_cited wanted.all wanted.cited)
cited-first wanted names slots cited distinct is named placed =
    let keys = first_cited wanted.all wanted.cited in
    let count = sym (length-map cited (λ (b : Bytes). b.items)) ∙ ap length is in
    let all_names : names ≡ map folded keys = named ∙ ap (λ (n : ℕ). take n (map folded wanted.cited)) count ∙ first-names wanted.all wanted.cited in
    let all_slots : slots ≡ map (open_slot wanted true 0) keys = placed ∙ ap (map (open_slot wanted true 0)) is in
    ap (λ (ns : List (List ℕ)). record { names = ns; slots = slots }) all_names
    ∙ ap (λ (ss : List Slot). record { names = map folded keys; slots = ss }) all_slots
    ∙ sym (cited-apart wanted [] keys (distinct-first wanted.all wanted.cited distinct))
