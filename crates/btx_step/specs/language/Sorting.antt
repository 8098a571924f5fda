-- The order of a list of entries (btxhak, section 5.2, at SORT).
use Rattle.std.specs.Prelude.{ℕ, Bool, List, [], ◌∷◌, if◌then◌else◌}
use Rattle.std.specs.Ordering.{nat_cmp, is_lt}
use Rattle.std.specs.Cmp.Lexicographic.{slice_cmp}

module _ {X : Type 0} (lt : X → X → Bool) where
  -- inserts `x` before the first element that isn't less than it
  abbrev pub inserted : X → List X → List X
  inserted x [] = x ∷ []
  inserted x (y ∷ ys) = if lt y x then y ∷ inserted x ys else x ∷ y ∷ ys

  -- the elements in ascending order; equal ones keep their order
  unfoldable pub sorted_by : List X → List X
  sorted_by [] = []
  sorted_by (x ∷ xs) = inserted x (sorted_by xs)

module _ {X : Type 0} where
  -- the elements so that their keys ascend, and those of equal keys in the order in which they stood. A key comes before another one if it has the
  -- smaller byte at the first byte that differs, or if it is a proper prefix of the other
  abbrev pub sorted : (X → List ℕ) → List X → List X
  sorted key = sorted_by (λ x y. is_lt (slice_cmp nat_cmp (key x) (key y)))
