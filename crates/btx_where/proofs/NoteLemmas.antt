-- The functions with names, and the places round one.
use Rattle.std.proofs.Common.{◌≡◌, ◌<◌, ◌≤◌, ℕ, zero, suc, ◌+◌, ◌-◌, true, false, List, [], ◌∷◌, ◌++◌, length, take, drop, min, ap, ◌∙◌, refl}
use Rattle.std.proofs.Common.{arith, append_assoc, if◌then◌else◌, codes}
use Rattle.std.proofs.lemmas.List.{drop_min, length-drop, take_all, take_min}
use Rattle.std.specs.Str.{bytes_eq}
use Rattle.btx_bst.specs.language.Style.{Style}
use Rattle.btx_where.specs.Notes.{first_named, function_name, is_same, places_round}
use Rattle.btx_where.specs.declared.place.Place.{Place}

-- ---- the first function that has a name

module _ (style : Style) (otherwise number functions : ℕ) (within : number < functions) where
  one_less : functions - number ≡ suc (functions - (number + 1))
  one_less = omega (arith, within)

  pub named_here : bytes_eq (function_name style number) (codes "{}") ≡ false → first_named style otherwise (functions - number) number ≡ number
  named_here named =
      ap (λ left. first_named style otherwise left number) one_less
      ∙ ap (λ nameless. if nameless then first_named style otherwise (functions - (number + 1)) (number + 1) else number) named

  pub named_later : bytes_eq (function_name style number) (codes "{}") ≡ true
      → first_named style otherwise (functions - number) number ≡ first_named style otherwise (functions - (number + 1)) (number + 1)
  named_later nameless =
      ap (λ left. first_named style otherwise left number) one_less
      ∙ ap (λ nameless. if nameless then first_named style otherwise (functions - (number + 1)) (number + 1) else number) nameless

pub none_named : (style : Style) (otherwise number functions : ℕ) → functions ≤ number → first_named style otherwise (functions - number) number ≡ otherwise
none_named style otherwise number functions le =
    let none : functions - number ≡ 0 = omega (arith, le) in
    ap (λ left. first_named style otherwise left number) none

-- ---- the places round one

module _ (at place : Place) (rest all : List Place) (is : all ≡ place ∷ rest) where
  pub round_here : is_same place at ≡ true → places_round at all ≡ rest
  round_here same = ap (places_round at) is ∙ ap (λ b. if b then rest else places_round at rest) same

  pub round_later : is_same place at ≡ false → places_round at all ≡ places_round at rest
  round_later other = ap (places_round at) is ∙ ap (λ b. if b then rest else places_round at rest) other

-- ---- the first of a list

-- the first ones of a list that has as many
pub length_of_first : {A : Type 0} (n : ℕ) (xs : List A) → n ≤ length xs → n ≡ length (take n xs)
length_of_first zero xs le = refl
length_of_first (suc n) [] le = absurd (omega (arith, le))
length_of_first (suc n) (x ∷ xs) le = ap suc (length_of_first n xs (omega (arith, le)))

-- a list in two parts: as many of the first ones as there are, and those after them
pub two_parts : {A : Type 0} (near far : List A → List ℕ) (n k : ℕ) (xs : List A) (old mid new : List ℕ) → k ≡ min n (length xs)
    → mid ≡ old ++ near (take k xs) → new ≡ mid ++ far (take (length xs - k) (drop k xs)) → new ≡ old ++ (near (take n xs) ++ far (drop n xs))
two_parts near far n k xs old mid new is first second =
    let behind : drop k xs ≡ drop n xs = ap (λ k. drop k xs) is ∙ drop_min n xs in
    let le : length (drop k xs) ≤ length xs - k = omega (arith, length-drop k xs) in
    second ∙ ap (λ ys. mid ++ far ys) (take_all (length xs - k) (drop k xs) le ∙ behind)
    ∙ ap (λ text. text ++ far (drop n xs)) (first ∙ ap (λ ys. old ++ near ys) (ap (λ k. take k xs) is ∙ take_min n xs))
    ∙ append_assoc old (near (take n xs)) (far (drop n xs))
