-- Names of parts of the definition of separators.
use Rattle.std.specs.Prelude.{ℕ, ◌==◌, Bool}
use Rattle.std.specs.Char.{to_ascii_lowercase}

-- byte `b` is the letter `lower`, in either case
abbrev pub is_letter : ℕ → ℕ → Bool
is_letter lower b = to_ascii_lowercase b == lower
