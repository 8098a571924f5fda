-- A table of names, as a list of names.
use Rattle.std.proofs.Common.{◌≡◌, ℕ, suc, arith, ◌+◌, Bool, true, false, not, ◌||◌, cond, if◌then◌else◌, List, [], ◌∷◌, ◌++◌, length, Option, None, Some, refl}
use Rattle.std.proofs.Common.{ap, ◌∙◌, nat_lt, one-add}
use Rattle.std.specs.Prelude.{position}
use Rattle.std.specs.Str.{bytes_eq}
use Rattle.std.specs.Option.{option_map}
use Rattle.std.specs.List.{list_any, position_or_len}
use Rattle.std.proofs.lemmas.Bool.Decides.{nat_tests}
use Rattle.btx_aux.specs.refinement.Entries.{Bytes, texts_of}
use Rattle.btx_bib.specs.refinement.Finding.{first_place}

same_key : Bytes → Bytes → Bool
same_key a b = bytes_eq a.items b.items

lt_suc : (m n : ℕ) → nat_lt (suc m) (suc n) ≡ nat_lt m n
lt_suc m n = grind (arith, nat_tests)

lt_none : (n : ℕ) → nat_lt 0 (suc n) ≡ true
lt_none n = grind (arith, nat_tests)

shifted : (b : Bool) (n : ℕ) → cond b (Some (suc n)) None ≡ option_map suc (cond b (Some n) None)
shifted true n = refl
shifted false n = refl

module _ {T : Type 0} (test : T → Bool) where
  -- the place in a list whose head passes or doesn't
  abbrev placed : Bool → List T → Option ℕ
  placed b xs =
      let n = cond (not b) (1 + position_or_len test xs) 0 in
      cond (nat_lt n (suc (length xs))) (Some n) None

  placed-is : (b : Bool) (xs : List T) → position test xs ≡ first_place test xs → placed b xs ≡ (if b then Some 0 else option_map suc (first_place test xs))
  placed-is true xs h = rw (lt_none (length xs)) refl
  placed-is false xs h =
      ap (λ (n : ℕ). cond (nat_lt n (suc (length xs))) (Some n) None) (one-add (position_or_len test xs))
      ∙ ap (λ (b : Bool). cond b (Some (suc (position_or_len test xs))) None) (lt_suc (position_or_len test xs) (length xs))
      ∙ shifted (nat_lt (position_or_len test xs) (length xs)) (position_or_len test xs)
      ∙ ap (option_map suc) h

  pub place_of-position : (xs : List T) → position test xs ≡ first_place test xs
  place_of-position [] = refl
  place_of-position (x ∷ xs) = placed-is (test x) xs (place_of-position xs)

pub place_of-texts : (names : List Bytes) (name : List ℕ) → first_place (λ (other : Bytes). bytes_eq name other.items) names
    ≡ first_place (bytes_eq name) (texts_of names)
place_of-texts [] name = refl
place_of-texts (first ∷ names) name = ap (λ (o : Option ℕ). if bytes_eq name first.items then Some 0 else option_map suc o) (place_of-texts names name)

pub any-texts : (names : List Bytes) (name : List ℕ) → list_any (λ (other : Bytes). bytes_eq name other.items) names ≡ list_any (bytes_eq name) (texts_of names)
any-texts [] name = refl
any-texts (first ∷ names) name = ap (λ (b : Bool). bytes_eq name first.items || b) (any-texts names name)

pub texts_of-push : (names : List Bytes) (name : Bytes) → texts_of (names ++ name ∷ []) ≡ texts_of names ++ name.items ∷ []
texts_of-push [] name = refl
texts_of-push (first ∷ names) name = ap (λ (rest : List (List ℕ)). first.items ∷ rest) (texts_of-push names name)
