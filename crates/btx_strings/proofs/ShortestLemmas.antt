-- The fewest first elements with `n` characters are a shortest prefix, and there is no other.
use Rattle.std.proofs.Common.{◌≡◌, ℕ, zero, suc, ◌+◌, ◌<◌, inl, inr, ⊎_elim, Bool, true, false, cond, List, [], ◌∷◌, ◌++◌, length, refl, ap, arith}
use Rattle.std.proofs.Common.{length-append}
use Rattle.std.proofs.lemmas.List.Sums.{sum_by-cons}
use Rattle.btx_text.specs.language.Elements.{Element, is_character}
use Rattle.btx_strings.specs.language.Lengths.{take_characters}
use Rattle.btx_strings.specs.laws.Lengths.{characters_of, IsShortest}

-- how many characters an element is
abbrev one_of : Element → ℕ
one_of part = cond (is_character part.kind) 1 0

characters_of-cons : (part : Element) (parts : List Element) → characters_of (part ∷ parts) ≡ one_of part + characters_of parts
characters_of-cons part parts = sum_by-cons (λ (p : Element). cond (is_character p.kind) 1 0) part parts

-- how many are left to find after an element
wanted_after : (n : ℕ) (part : Element) → cond (is_character part.kind) n (suc n) + one_of part ≡ suc n
wanted_after n part = at (is_character part.kind) where
  at : (t : Bool) → cond t n (suc n) + cond t 1 0 ≡ suc n
  at true = omega arith
  at false = omega arith

shortest-nil : (n : ℕ) (left right : List Element) → [] ≡ left ++ right → 0 < length right → characters_of left < n
shortest-nil n left right e some =
    let len : 0 ≡ length (left ++ right) = ap length e in
    absurd (omega (arith, length-append left right))

pub take_characters-shortest : (n : ℕ) (parts : List Element) → IsShortest n parts (take_characters n parts)
unfolding take_characters
take_characters-shortest n [] = record { begins = ([], refl); enough = inr refl; shortest = shortest-nil n }
take_characters-shortest zero (part ∷ parts) = record { begins = (part ∷ parts, refl); enough = inl refl; shortest = shortest-nil 0 }
take_characters-shortest (suc n) (part ∷ parts) =
    let m = cond (is_character part.kind) n (suc n) in
    let h = take_characters-shortest m parts in
    let front = take_characters m parts in
    let count = characters_of-cons part front in
    let total = wanted_after n part in
    record {
      begins = (h.begins.0, ap (λ ps. part ∷ ps) h.begins.1);
      enough = ⊎_elim (λ e. inl (omega (arith, e))) (λ e. inr (ap (λ ps. part ∷ ps) e)) h.enough;
      shortest = shorter n part front m total h.shortest;
    } where
      shorter : (n : ℕ) (part : Element) (front : List Element) (m : ℕ) → m + one_of part ≡ suc n →
          ((left right : List Element) → front ≡ left ++ right → 0 < length right → characters_of left < m) →
          (left right : List Element) → part ∷ front ≡ left ++ right → 0 < length right → characters_of left < suc n
      shorter n part front m total h [] right e some = omega arith
      shorter n part front m total h (p ∷ left) right e some =
          let here : part ≡ p = cc in
          let there : front ≡ left ++ right = cc in
          let less = h left right there some in
          let count = characters_of-cons p left in
          let same : one_of part ≡ one_of p = ap one_of here in
          omega arith
