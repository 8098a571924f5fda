-- Values of an entry, by the numbers of their fields.
use Rattle.std.specs.Prelude.{ℕ, zero, suc, List, [], ◌∷◌, Option, None}

-- the value of a field by its number: past the last one it is missing
abbrev pub field_value : ℕ → List (Option (List ℕ)) → Option (List ℕ)
field_value field [] = None
field_value zero (value ∷ values) = value
field_value (suc field) (value ∷ values) = field_value field values
