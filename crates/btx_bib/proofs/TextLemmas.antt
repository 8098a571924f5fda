-- Values as places among the values that an entry has.
use Rattle.std.proofs.Common.{◌≡◌, ℕ, zero, suc, arith, ◌+◌, ◌<◌, ◌≤◌, List, [], ◌∷◌, ◌++◌, length, length-append, map, take, replicate, Option, None, Some}
use Rattle.std.proofs.Common.{refl, ap, ◌∙◌}
use Rattle.std.specs.Prelude.{slice_get, slice_set}
use Rattle.std.specs.List.{All, AllByRecursion}
use Rattle.std.proofs.lemmas.List.{length-map, map-append}
use Rattle.std.proofs.lemmas.List.Elements.{recursion_from_All}
use Rattle.btx_bib.specs.declared.places.Place.{Place}
use Rattle.btx_bib.specs.declared.places.Place.TheVariants.{Missing, Lent, Made}
use Rattle.btx_bib.specs.declared.places.ShortPlace.{ShortPlace}
use Rattle.btx_bib.specs.refinement.Filling.{blanks}
use Rattle.btx_bib.specs.refinement.Finding.{changed_at}
use Rattle.btx_bib.specs.language.Values.{field_value}
use Rattle.btx_bib.specs.refinement.ShortPlaces.{few_places, place_in}
use Rattle.btx_bib.specs.refinement.Values.{IsAdded, IsWithin, text_at}

-- ---- one field

-- the value of a field, by its place
pub value_at-place : (lent made : List (List ℕ)) (places : List Place) (field : ℕ) (place : Place) → Some place ≡ slice_get places field
    → text_at lent made place ≡ field_value field (map (text_at lent made) places)
value_at-place lent made [] field place is = cc
value_at-place lent made (first ∷ places) zero place is = by_place is where
  by_place : Some place ≡ Some first → text_at lent made place ≡ text_at lent made first
  by_place e = cc
value_at-place lent made (first ∷ places) (suc field) place is = value_at-place lent made places field place is

pub value_at-past : (lent made : List (List ℕ)) (places : List Place) (field : ℕ) → None ≡ slice_get places field
    → None ≡ field_value field (map (text_at lent made) places)
value_at-past lent made [] field is = refl
value_at-past lent made (first ∷ places) zero is = cc
value_at-past lent made (first ∷ places) (suc field) is = value_at-past lent made places field is

pub texts-missing : (lent made : List (List ℕ)) (count : ℕ) → map (text_at lent made) (replicate count Missing) ≡ blanks count
texts-missing lent made zero = refl
texts-missing lent made (suc count) = ap (λ (rest : List (Option (List ℕ))). None ∷ rest) (texts-missing lent made count)

-- ---- places in a byte

pub places-missing : (short : ShortPlace) (count : ℕ) → place_in short ≡ Missing → map place_in (replicate count short) ≡ replicate count Missing
places-missing short zero is = refl
places-missing short (suc count) is =
    ap (λ (place : Place). place ∷ map place_in (replicate count short)) is ∙ ap (λ (rest : List Place). Missing ∷ rest) (places-missing short count is)

pub places-set : (shorts : List ShortPlace) (field : ℕ) (short : ShortPlace) (place : Place) → place_in short ≡ place
    → map place_in (slice_set shorts field short) ≡ slice_set (map place_in shorts) field place
places-set [] field short place is = refl
places-set (first ∷ shorts) zero short place is = ap (λ (new : Place). new ∷ map place_in shorts) is
places-set (first ∷ shorts) (suc field) short place is = ap (λ (rest : List Place). place_in first ∷ rest) (places-set shorts field short place is)

-- ---- places of few fields

take-set : (shorts : List ShortPlace) (count field : ℕ) (short : ShortPlace) → take count (slice_set shorts field short)
    ≡ slice_set (take count shorts) field short
take-set shorts zero field short = refl
take-set [] (suc count) field short = refl
take-set (first ∷ shorts) (suc count) zero short = refl
take-set (first ∷ shorts) (suc count) (suc field) short = ap (λ (rest : List ShortPlace). first ∷ rest) (take-set shorts count field short)

take-missing : (short : ShortPlace) (all count : ℕ) → count ≤ all → take count (replicate all short) ≡ replicate count short
take-missing short all zero few = refl
take-missing short zero (suc count) few = absurd (omega arith)
take-missing short (suc all) (suc count) few = ap (λ (rest : List ShortPlace). short ∷ rest) (take-missing short all count (omega arith))

pub few-missing : (short : ShortPlace) (all count : ℕ) → count ≤ all → place_in short ≡ Missing → few_places (replicate all short) count
    ≡ replicate count Missing
few-missing short all count few is = ap (map place_in) (take-missing short all count few) ∙ places-missing short count is

pub few-set : (shorts : List ShortPlace) (count field : ℕ) (short : ShortPlace) → few_places (slice_set shorts field short) count
    ≡ slice_set (few_places shorts count) field (place_in short)
few-set shorts count field short = ap (map place_in) (take-set shorts count field short) ∙ places-set (take count shorts) field short (place_in short) refl

pub few-within : (shorts : List ShortPlace) (count field : ℕ) → field < length (few_places shorts count) → field < length shorts
few-within [] zero field h = absurd (omega (arith, h))
few-within [] (suc count) field h = absurd (omega (arith, h))
few-within (first ∷ shorts) zero field h = absurd (omega (arith, h))
few-within (first ∷ shorts) (suc count) zero h = omega arith
few-within (first ∷ shorts) (suc count) (suc field) h = omega (arith, few-within shorts count field (omega (arith, h)))

pub ruleset few_steps = (few-missing, few-set, few-within)

pub ruleset place_steps = (places-set, length-map)

-- ---- one value more

text-kept : (texts : List (List ℕ)) (new : List ℕ) (number : ℕ) → number < length texts → slice_get (texts ++ new ∷ []) number ≡ slice_get texts number
text-kept [] new number h = absurd (omega arith)
text-kept (text ∷ texts) new zero h = refl
text-kept (text ∷ texts) new (suc number) h = text-kept texts new number (omega arith)

text-new : (texts : List (List ℕ)) (new : List ℕ) → slice_get (texts ++ new ∷ []) (length texts) ≡ Some new
text-new [] new = refl
text-new (text ∷ texts) new = text-new texts new

one-more : (texts : List (List ℕ)) (new : List ℕ) → length (texts ++ new ∷ []) ≡ length texts + 1
one-more texts new = length-append texts (new ∷ [])

pub added-lent : (lent made : List (List ℕ)) (new : List ℕ) → IsAdded lent made (lent ++ new ∷ []) made new (Lent (length lent))
added-lent lent made new = record { there = text-new lent new; within = omega (arith, one-more lent new); others = other } where
  other : (place : Place) → IsWithin (length lent) (length made) place → (text_at (lent ++ new ∷ []) made place ≡ text_at lent made place)
      × IsWithin (length (lent ++ new ∷ [])) (length made) place
  other Missing h = (refl, tt)
  other (Lent number) h = (text-kept lent new number h, omega (arith, one-more lent new, h))
  other (Made number) h = (refl, h)

pub added-made : (lent made : List (List ℕ)) (new : List ℕ) → IsAdded lent made lent (made ++ new ∷ []) new (Made (length made))
added-made lent made new = record { there = text-new made new; within = omega (arith, one-more made new); others = other } where
  other : (place : Place) → IsWithin (length lent) (length made) place → (text_at lent (made ++ new ∷ []) place ≡ text_at lent made place)
      × IsWithin (length lent) (length (made ++ new ∷ [])) place
  other Missing h = (refl, tt)
  other (Lent number) h = (refl, h)
  other (Made number) h = (text-kept made new number h, omega (arith, one-more made new, h))

pub ruleset added_steps = (added-lent, added-made)

map-changed_at : {A B : Type 0} (f : A → B) (xs : List A) (i : ℕ) (y : A) → map f (slice_set xs i y) ≡ changed_at i (λ (old : B). f y) (map f xs)
map-changed_at f [] i y = refl
map-changed_at f (x ∷ xs) zero y = refl
map-changed_at f (x ∷ xs) (suc i) y = ap (λ (rest : List _). f x ∷ rest) (map-changed_at f xs i y)

module _ (lent made lent' made' : List (List ℕ)) (new : List ℕ) (place : Place) (added : IsAdded lent made lent' made' new place) where
  texts-kept : (places : List Place) → AllByRecursion (IsWithin (length lent) (length made)) places → map (text_at lent' made') places
      ≡ map (text_at lent made) places
  texts-kept [] h = refl
  texts-kept (first ∷ places) h =
      ap (λ (value : Option (List ℕ)). value ∷ map (text_at lent' made') places) (added.others first h.0).0
      ∙ ap (λ (rest : List (Option (List ℕ))). text_at lent made first ∷ rest) (texts-kept places h.1)

  -- a field with another value
  pub texts-put : (places : List Place) (field : ℕ) → All (IsWithin (length lent) (length made)) places
      → map (text_at lent' made') (slice_set places field place) ≡ changed_at field (λ (old : Option (List ℕ)). Some new) (map (text_at lent made) places)
  texts-put places field within =
      map-changed_at (text_at lent' made') places field place
      ∙ ap (λ (value : Option (List ℕ)). changed_at field (λ (old : Option (List ℕ)). value) (map (text_at lent' made') places)) added.there
      ∙ ap (changed_at field (λ (old : Option (List ℕ)). Some new)) (texts-kept places (recursion_from_All _ places within))
