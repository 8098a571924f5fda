-- Keys that are the same without case, and lists that have each key once.
use Rattle.std.proofs.Common.{◌≡◌, ℕ, suc, Bool, true, false, ◌||◌, cond, if◌then◌else◌, List, [], ◌∷◌, ◌++◌, map, fold, Option, None, Some, refl, sym, ap}
use Rattle.std.proofs.Common.{subst, ◌∙◌}
use Rattle.std.specs.Str.{bytes_eq}
use Rattle.std.specs.Option.{option_map}
use Rattle.std.specs.List.{find, list_any, AllByRecursion, IsDistinct}
use Rattle.std.specs.Cmp.{IsEquivalence}
use Rattle.std.proofs.lemmas.Cmp.{nat_list_eq_equiv}
use Rattle.std.proofs.lemmas.Slice.Eq.{bytes_eq-Decides}
use Rattle.std.proofs.lemmas.Map.Keys.{IsDistinct-head, IsDistinct-tail, IsDistinct-push}
use Rattle.btx_text.specs.language.Keys.{folded}
use Rattle.btx_aux.specs.language.Names.{is_same_key, with_key}
use Rattle.btx_bib.specs.declared.slots.Slot.{Slot}
use Rattle.btx_bib.specs.language.Entries.{Given}
use Rattle.btx_bib.specs.refinement.Finding.{first_place, changed_at}
use Rattle.btx_bib.specs.language.Stored.{entry_with_key}
use Rattle.btx_bib.specs.laws.Stored.{is_any_key}

-- ---- the same key

pub same_key_equiv : IsEquivalence is_same_key
same_key_equiv = record {
  refl = λ x. nat_list_eq_equiv.refl (folded x);
  symm = λ x y. nat_list_eq_equiv.symm (folded x) (folded y);
  congr = λ x y z. nat_list_eq_equiv.congr (folded x) (folded y) (folded z);
}

pub folded-same : (key other : List ℕ) → is_same_key key other ≡ true → folded key ≡ folded other
folded-same key other same = (bytes_eq-Decides (folded key) (folded other)).0 same

-- what a search by its key finds has that key, if what is found after the first one has it
pub found-first : {T : Type 0} (key_in : T → List ℕ) (key : List ℕ) (y x : T) (later : Option T) (b : Bool) → is_same_key key (key_in y) ≡ b
    → cond b (Some y) later ≡ Some x → (later ≡ Some x → is_same_key key (key_in x) ≡ true) → is_same_key key (key_in x) ≡ true
found-first {T} key_in key y x later true same h behind = let is : y ≡ x = cc in subst (λ (z : T). is_same_key key (key_in z) ≡ true) is same
found-first key_in key y x later false differs h behind = behind h

pub is_any_key-same : (keys : List (List ℕ)) (key other : List ℕ) → is_same_key key other ≡ true → is_any_key keys key ≡ is_any_key keys other
is_any_key-same keys key other same = ap (λ (f : List ℕ). list_any (λ (k : List ℕ). bytes_eq f (folded k)) keys) (folded-same key other same)

pub entry_of-same : (entries : List Given) (key other : List ℕ) → is_same_key key other ≡ true → entry_with_key entries key ≡ entry_with_key entries other
entry_of-same entries key other same = ap (λ (f : List ℕ). find (λ (e : Given). bytes_eq f (folded e.key)) entries) (folded-same key other same)

-- ---- one of some keys

or_or : (a b c : Bool) → ((a || b) || c) ≡ (a || (b || c))
or_or true b c = refl
or_or false b c = refl

or_false : (a : Bool) → (a || false) ≡ a
or_false true = refl
or_false false = refl

pub is_any_key-append : (xs ys : List (List ℕ)) (key : List ℕ) → is_any_key (xs ++ ys) key ≡ (is_any_key xs key || is_any_key ys key)
is_any_key-append [] ys key = refl
is_any_key-append (x ∷ xs) ys key = ap (λ (b : Bool). is_same_key key x || b) (is_any_key-append xs ys key)
    ∙ sym (or_or (is_same_key key x) (is_any_key xs key) (is_any_key ys key))

-- a key that is there adds nothing
there_already : (there same : Bool) → (same ≡ true → there ≡ true) → there ≡ (there || same)
there_already true same h = refl
there_already false true h = h refl
there_already false false h = refl

is_any_key-with_key : (keys : List (List ℕ)) (key other : List ℕ) → is_any_key (with_key keys other) key ≡ (is_any_key keys key || is_same_key key other)
is_any_key-with_key keys key other = by_test (is_any_key keys other) refl where
  by_test : (b : Bool) → is_any_key keys other ≡ b → is_any_key (if b then keys else keys ++ other ∷ []) key ≡ (is_any_key keys key || is_same_key key other)
  by_test true there = there_already (is_any_key keys key) (is_same_key key other) (λ same. is_any_key-same keys key other same ∙ there)
  by_test false absent = is_any_key-append keys (other ∷ []) key ∙ ap (λ (b : Bool). is_any_key keys key || b) (or_false (is_same_key key other))

pub is_any_key-fold : (xs keys : List (List ℕ)) (key : List ℕ) → is_any_key (fold with_key keys xs) key ≡ (is_any_key keys key || is_any_key xs key)
is_any_key-fold [] keys key = sym (or_false (is_any_key keys key))
is_any_key-fold (x ∷ xs) keys key =
    is_any_key-fold xs (with_key keys x) key
    ∙ ap (λ (b : Bool). b || is_any_key xs key) (is_any_key-with_key keys key x)
    ∙ or_or (is_any_key keys key) (is_same_key key x) (is_any_key xs key)

-- ---- each key once

distinct-with_key : (keys : List (List ℕ)) (key : List ℕ) → IsDistinct is_same_key keys → IsDistinct is_same_key (with_key keys key)
distinct-with_key keys key distinct = by_test (is_any_key keys key) refl where
  by_test : (b : Bool) → is_any_key keys key ≡ b → IsDistinct is_same_key (if b then keys else keys ++ key ∷ [])
  by_test true there = distinct
  by_test false absent = IsDistinct-push same_key_equiv keys key distinct absent

pub distinct-fold : (xs keys : List (List ℕ)) → IsDistinct is_same_key keys → IsDistinct is_same_key (fold with_key keys xs)
distinct-fold [] keys distinct = distinct
distinct-fold (x ∷ xs) keys distinct = distinct-fold xs (with_key keys x) (distinct-with_key keys x distinct)

pub distinct-none : IsDistinct is_same_key []
unfolding IsDistinct
distinct-none = tt

-- ---- by place

-- something for each key, changed at one key
abbrev pub changed_key : (List ℕ → Slot) → (Slot → Slot) → List ℕ → List ℕ → Slot
changed_key f change key k = if is_same_key key k then change (f k) else f k

pub unchanged : (f : List ℕ → Slot) (change : Slot → Slot) (key : List ℕ) (keys : List (List ℕ))
    → AllByRecursion (λ (k : List ℕ). is_same_key key k ≡ false) keys → map f keys ≡ map (changed_key f change key) keys
unchanged f change key [] none = refl
unchanged f change key (k ∷ keys) none =
    let here : f k ≡ changed_key f change key k = ap (λ (b : Bool). if b then change (f k) else f k) (sym none.0) in
    ap (λ (slot : Slot). slot ∷ map f keys) here ∙ ap (λ (slots : List Slot). changed_key f change key k ∷ slots) (unchanged f change key keys none.1)

pub none_same : (key : List ℕ) (keys : List (List ℕ)) → is_any_key keys key ≡ false → AllByRecursion (λ (k : List ℕ). is_same_key key k ≡ false) keys
none_same key [] none = tt
none_same key (k ∷ keys) none = by_test (is_same_key key k) refl (none_same key keys) none where
  by_test : (b : Bool) → is_same_key key k ≡ b → (is_any_key keys key ≡ false → AllByRecursion (λ (k : List ℕ). is_same_key key k ≡ false) keys)
      → (b || is_any_key keys key) ≡ false
      → (is_same_key key k ≡ false) × AllByRecursion (λ (k : List ℕ). is_same_key key k ≡ false) keys
  by_test true same rest none = cc
  by_test false other rest none = (other, rest none)

others : (key k : List ℕ) (keys : List (List ℕ)) → is_same_key key k ≡ true → AllByRecursion (λ (other : List ℕ). is_same_key k other ≡ false) keys
    → AllByRecursion (λ (other : List ℕ). is_same_key key other ≡ false) keys
others key k [] same h = tt
others key k (other ∷ keys) same h = (same_key_equiv.congr key k other same ∙ h.0, others key k keys same h.1)

suc_some : (b : Bool) (o : Option ℕ) (place : ℕ) → (if b then Some 0 else option_map suc o) ≡ Some place → b ≡ false
    → (before : ℕ) × ((o ≡ Some before) × (place ≡ suc before))
suc_some true o place h f = cc
suc_some false None place h f = cc
suc_some false (Some before) place h f = (before, (refl, cc))

zero_some : (b : Bool) (o : Option ℕ) (place : ℕ) → (if b then Some 0 else option_map suc o) ≡ Some place → b ≡ true → place ≡ 0
zero_some true o place h t = cc
zero_some false o place h t = cc

pub changed_at-key : (f : List ℕ → Slot) (change : Slot → Slot) (key : List ℕ) (keys : List (List ℕ)) (place : ℕ) → IsDistinct is_same_key keys
    → first_place (bytes_eq (folded key)) (map folded keys) ≡ Some place
    → changed_at place change (map f keys) ≡ map (changed_key f change key) keys
changed_at-key f change key [] place distinct at = refl
changed_at-key f change key (k ∷ keys) place distinct at =
    by_test (is_same_key key k) refl (λ before there. changed_at-key f change key keys before (IsDistinct-tail is_same_key k keys distinct) there) where
      by_test : (b : Bool) → is_same_key key k ≡ b
          → ((before : ℕ) → first_place (bytes_eq (folded key)) (map folded keys) ≡ Some before → changed_at before change (map f keys)
          ≡ map (changed_key f change key) keys)
          → changed_at place change (f k ∷ map f keys) ≡ (if b then change (f k) else f k) ∷ map (changed_key f change key) keys
      by_test true same rest =
          let first = zero_some (is_same_key key k) (first_place (bytes_eq (folded key)) (map folded keys)) place at same in
          rw first (ap (λ (slots : List Slot). change (f k) ∷ slots)
          (unchanged f change key keys (others key k keys same (IsDistinct-head is_same_key k keys distinct))))
      by_test false other rest =
          let later = suc_some (is_same_key key k) (first_place (bytes_eq (folded key)) (map folded keys)) place at other in
          rw later.1.1 (ap (λ (slots : List Slot). f k ∷ slots) (rest later.0 later.1.0))
