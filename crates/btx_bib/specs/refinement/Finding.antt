-- Where something stands in a list, and what is there.
use Rattle.std.specs.Prelude.{ℕ, zero, suc, Bool, List, [], ◌∷◌, Option, None, Some, if◌then◌else◌}
use Rattle.std.specs.Option.{option_map}

-- the place of the first that passes a test
abbrev pub first_place : {T : Type 0} → (T → Bool) → List T → Option ℕ
first_place test [] = None
first_place test (x ∷ xs) = if test x then Some 0 else option_map suc (first_place test xs)

-- a list with the element at a place changed
abbrev pub changed_at : {T : Type 0} → ℕ → (T → T) → List T → List T
changed_at place change [] = []
changed_at zero change (x ∷ xs) = change x ∷ xs
changed_at (suc place) change (x ∷ xs) = x ∷ changed_at place change xs
