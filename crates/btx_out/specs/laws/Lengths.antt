-- The lengths that a line may have. Any from 20 to 1,000 bytes can be asked for (this project's own rule).
use Rattle.std.specs.Prelude.{ℕ, ◌≤◌}

-- a length that can be asked for
abbrev pub IsLineLength : ℕ → Type 0
IsLineLength n = (20 ≤ n) × (n ≤ 1000)
