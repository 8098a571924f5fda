-- The values of the declared fields, by their numbers.
use Rattle.std.specs.Prelude.{◌≡◌, ℕ, ◌<◌, ⊤, List, length, map, Option, None, Some, slice_get}
use Rattle.btx_bib.specs.declared.places.Kept.{Kept}
use Rattle.btx_bib.specs.declared.places.Kept.TheVariants.{Few, Short, Long}
use Rattle.btx_bib.specs.declared.places.Place.{Place}
use Rattle.btx_bib.specs.declared.places.Place.TheVariants.{Missing, Lent, Made}
use Rattle.btx_bib.specs.refinement.ShortPlaces.{place_in}

-- ---- where values stand

-- places, however they are kept
abbrev pub places_in : Kept → List Place
places_in (Few few) = few
places_in (Short list) = map place_in list.items
places_in (Long list) = list.items

-- the value at a place, among those that are lent and those that were made
abbrev pub text_at : List (List ℕ) → List (List ℕ) → Place → Option (List ℕ)
text_at lent made Missing = None
text_at lent made (Lent number) = slice_get lent number
text_at lent made (Made number) = slice_get made number

-- a place is of no value, or its number is below `lent`, the number of values that are lent, or below `made`, that of those that were made
abbrev pub IsWithin : ℕ → ℕ → Place → Type 0
IsWithin lent made Missing = ⊤
IsWithin lent made (Lent number) = number < lent
IsWithin lent made (Made number) = number < made

-- a value was added at a place, and what stands at other places stands there still
pub record IsAdded (lent made lent' made' : List (List ℕ)) (text : List ℕ) (place : Place) : Type 0 where
  pub there : text_at lent' made' place ≡ Some text
  pub within : IsWithin (length lent') (length made') place
  pub others : (other : Place) → IsWithin (length lent) (length made) other
      → (text_at lent' made' other ≡ text_at lent made other) × IsWithin (length lent') (length made') other
