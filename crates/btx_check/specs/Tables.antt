-- What a table keeps.
use Rattle.std.specs.Prelude.{◌≡◌, ℕ, List, [], ◌∷◌, ◌++◌, slice_set, ◌⊎◌}

-- an entry was kept: after the others, or in place of one of them
abbrev pub IsKept : (T : Type 0) → T → List T → List T → Type 0
IsKept T entry before after = (after ≡ before ++ entry ∷ []) ⊎ ((k : ℕ) × (after ≡ slice_set before k entry))
