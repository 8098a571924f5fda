-- Words on lists.
use Rattle.std.specs.Prelude.{ℕ, Bool, true, false, List, [], ◌∷◌, bytes_eq}
use Rattle.std.specs.List.{list_any}

-- `x` as a list of one, if the test is true; else nothing
abbrev pub only_if : {T : Type 0} → Bool → T → List T
only_if true x = x ∷ []
only_if false x = []

-- one of the names is `name`, byte by byte
abbrev pub is_among : List (List ℕ) → List ℕ → Bool
is_among names name = list_any (bytes_eq name) names
