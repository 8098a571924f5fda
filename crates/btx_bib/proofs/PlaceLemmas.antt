-- Places of a list.
use Rattle.std.proofs.Common.{◌≡◌, ℕ, zero, suc, arith, ◌<◌, ◌≤◌, Bool, true, false, ◌||◌, if◌then◌else◌, List, [], ◌∷◌, length, map, get_or, Option, None}
use Rattle.std.proofs.Common.{Some, refl, ap, sym, ◌∙◌}
use Rattle.std.specs.Prelude.{slice_set}
use Rattle.std.proofs.lemmas.List.{length-map, map-set}
use Rattle.std.proofs.Math.ListN.{get_or-map}
use Rattle.std.specs.Option.{option_map}
use Rattle.std.specs.List.{list_any}
use Rattle.btx_bib.specs.refinement.Finding.{first_place, changed_at}

-- ---- a list whose element at a place has changed

-- `xs` is the list, and `ys` the same as the code's clauses have it
pub changed_at-set : {T : Type 0} (xs ys : List T) (i : ℕ) (d y : T) (change : T → T) → xs ≡ ys → d ≡ get_or xs i d → y ≡ change d → i < length xs
    → slice_set xs i y ≡ changed_at i change ys
changed_at-set xs ys i d y change same at is h = set xs i at h ∙ ap (changed_at i change) same where
  set : (zs : List _) (k : ℕ) → d ≡ get_or zs k d → k < length zs → slice_set zs k y ≡ changed_at k change zs
  set [] k at h = absurd (omega arith)
  set (z ∷ zs) zero at h = ap (λ (first : _). first ∷ zs) (is ∙ ap change at)
  set (z ∷ zs) (suc k) at h = ap (λ (rest : List _). z ∷ rest) (set zs k at (omega arith))

-- past the end nothing changes
pub changed_at-past : {T : Type 0} (xs ys : List T) (i : ℕ) (change : T → T) → xs ≡ ys → length xs ≤ i → ys ≡ changed_at i change ys
changed_at-past xs ys i change same h = rw (← same) (past xs i h) where
  past : (zs : List _) (k : ℕ) → length zs ≤ k → zs ≡ changed_at k change zs
  past [] k h = refl
  past (z ∷ zs) zero h = absurd (omega arith)
  past (z ∷ zs) (suc k) h = ap (λ (rest : List _). z ∷ rest) (past zs k (omega arith))

-- the same of a list whose elements are seen by `view`
pub changed_at-set_seen : {S T : Type 0} (view : S → T) (xs ys : List S) (i : ℕ) (d y : S) (change : T → T) → xs ≡ ys → d ≡ get_or xs i d
    → view y ≡ change (view d) → i < length xs → map view (slice_set xs i y) ≡ changed_at i change (map view ys)
changed_at-set_seen view xs ys i d y change same at is h =
    map-set view xs i y ∙ changed_at-set (map view xs) (map view ys) i (view d) (view y) change (ap (map view) same) (ap view at ∙ sym (get_or-map view xs i d))
    is (rw (length-map xs view) h)

pub changed_at-past_seen : {S T : Type 0} (view : S → T) (xs ys : List S) (i : ℕ) (change : T → T) → xs ≡ ys → length xs ≤ i
    → map view ys ≡ changed_at i change (map view ys)
changed_at-past_seen view xs ys i change same h =
    changed_at-past (map view xs) (map view ys) i change (ap (map view) same) (rw (length-map xs view) h)

-- what search tries for a function that changes a place of the list
pub ruleset change_steps = (changed_at-set, changed_at-past, changed_at-set_seen, changed_at-past_seen)

-- ---- the first place that passes a test

unmapped : (b : Bool) (o : Option ℕ) → (if b then Some 0 else option_map suc o) ≡ None → (b ≡ false) × (o ≡ None)
unmapped true o h = cc
unmapped false None h = (refl, refl)
unmapped false (Some i) h = cc

pub place_of-none : {T : Type 0} (test : T → Bool) (xs : List T) → first_place test xs ≡ None → list_any test xs ≡ false
place_of-none test [] h = refl
place_of-none test (x ∷ xs) h =
    let both = unmapped (test x) (first_place test xs) h in
    ap (λ (b : Bool). b || list_any test xs) both.0 ∙ place_of-none test xs both.1

-- what search tries for a function that adds a key which isn't listed
pub ruleset add_steps = (place_of-none)
