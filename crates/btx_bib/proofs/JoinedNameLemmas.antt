-- Names of two lists, one after the other: where a name stands, and what the first names of a list are.
use Rattle.std.proofs.Common.{◌≡◌, ℕ, zero, suc, arith, ◌+◌, Bool, true, false, ◌||◌, if◌then◌else◌, List, [], ◌∷◌, ◌++◌, length, take, Option, None}
use Rattle.std.proofs.Common.{Some, refl, sym, ap, ◌∙◌, nat_lt}
use Rattle.std.specs.Option.{option_map, option_or}
use Rattle.std.specs.List.{list_any}
use Rattle.std.proofs.lemmas.Bool.Decides.{nat_tests}
use Rattle.btx_bib.specs.refinement.Finding.{first_place}

-- a place, if it is one of the first `count`
abbrev pub place_within : ℕ → Option ℕ → Option ℕ
place_within count None = None
place_within count (Some place) = if nat_lt place count then Some place else None

none_below : (place : ℕ) → nat_lt place 0 ≡ false
none_below place = grind (arith, nat_tests)

below_next : (count : ℕ) → nat_lt 0 (suc count) ≡ true
below_next count = grind (arith, nat_tests)

both_next : (place count : ℕ) → nat_lt (suc place) (suc count) ≡ nat_lt place count
both_next place count = grind (arith, nat_tests)

within_none : (place : Option ℕ) → place_within 0 place ≡ None
within_none None = refl
within_none (Some place) = rw (none_below place) refl

next_if : (b : Bool) (place : ℕ) → option_map suc (if b then Some place else None) ≡ (if b then Some (suc place) else None)
next_if true place = refl
next_if false place = refl

within_next : (count : ℕ) (place : Option ℕ) → option_map suc (place_within count place) ≡ place_within (suc count) (option_map suc place)
within_next count None = refl
within_next count (Some place) = next_if (nat_lt place count) place ∙ ap (λ (b : Bool). if b then Some (suc place) else None) (sym (both_next place count))

module _ {T : Type 0} (test : T → Bool) where
  -- where the first stands that passes, among the first `count`
  pub first_place-take : (count : ℕ) (xs : List T) → first_place test (take count xs) ≡ place_within count (first_place test xs)
  first_place-take zero xs = sym (within_none (first_place test xs))
  first_place-take (suc count) [] = refl
  first_place-take (suc count) (x ∷ xs) = by_test (test x) (first_place-take count xs) where
    by_test : (b : Bool) → first_place test (take count xs) ≡ place_within count (first_place test xs)
        → (if b then Some 0 else option_map suc (first_place test (take count xs)))
        ≡ place_within (suc count) (if b then Some 0 else option_map suc (first_place test xs))
    by_test true rest = rw (below_next count) refl
    by_test false rest = ap (option_map suc) rest ∙ within_next count (first_place test xs)

  -- the same, of a list that is the first `count` of another
  pub place-take : (count : ℕ) (xs names : List T) → take count xs ≡ names → {found : Option ℕ} → found ≡ first_place test xs → place_within count found
      ≡ first_place test names
  place-take count xs names is found = ap (place_within count) found ∙ sym (first_place-take count xs) ∙ ap (first_place test) is

  behind_none : (n : ℕ) (place : Option ℕ) → n ≡ 0 → place ≡ option_map (λ (p : ℕ). n + p) place
  behind_none n None is = refl
  behind_none n (Some p) is = let same : p ≡ n + p = omega (arith, is) in ap Some same

  behind_next : (n : ℕ) (first second : Option ℕ) → option_map suc (option_or first (option_map (λ (p : ℕ). n + p) second))
      ≡ option_or (option_map suc first) (option_map (λ (p : ℕ). suc n + p) second)
  behind_next n (Some p) second = refl
  behind_next n None None = refl
  behind_next n None (Some p) = let same : suc (n + p) ≡ suc n + p = omega arith in ap Some same

  -- where the first stands that passes, in one list after another
  pub first_place-append : (xs ys : List T) → first_place test (xs ++ ys)
      ≡ option_or (first_place test xs) (option_map (λ (p : ℕ). length xs + p) (first_place test ys))
  first_place-append [] ys = behind_none 0 (first_place test ys) refl
  first_place-append (x ∷ xs) ys = by_test (test x) (first_place-append xs ys) where
    by_test : (b : Bool) → first_place test (xs ++ ys) ≡ option_or (first_place test xs) (option_map (λ (p : ℕ). length xs + p) (first_place test ys))
        → (if b then Some 0 else option_map suc (first_place test (xs ++ ys))) ≡ option_or (if b then Some 0 else option_map suc (first_place test xs))
        (option_map (λ (p : ℕ). suc (length xs) + p) (first_place test ys))
    by_test true rest = refl
    by_test false rest = ap (option_map suc) rest ∙ behind_next (length xs) (first_place test xs) (first_place test ys)

  -- the same, of a list that is one after another, by the places in these
  pub place-append : (xs ys names : List T) → xs ++ ys ≡ names → (found more : Option ℕ) → found ≡ first_place test xs → more ≡ first_place test ys
      → option_or found (option_map (λ (p : ℕ). length xs + p) more) ≡ first_place test names
  place-append xs ys names is found more first second =
      ap (λ (place : Option ℕ). option_or place (option_map (λ (p : ℕ). length xs + p) more)) first
      ∙ ap (λ (place : Option ℕ). option_or (first_place test xs) (option_map (λ (p : ℕ). length xs + p) place)) second
      ∙ sym (first_place-append xs ys)
      ∙ ap (first_place test) is

or_second : (a b : Bool) → (a || b) ≡ false → b ≡ false
or_second true b none = cc
or_second false b none = none

pub none-behind : {T : Type 0} (test : T → Bool) (xs ys : List T) → list_any test (xs ++ ys) ≡ false → list_any test ys ≡ false
none-behind test [] ys none = none
none-behind test (x ∷ xs) ys none = none-behind test xs ys (or_second (test x) (list_any test (xs ++ ys)) none)
