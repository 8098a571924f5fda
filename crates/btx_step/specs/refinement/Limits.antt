-- How many bytes of a string a variable may keep (this project's own rule; the original's limits are set when it is built).
use Rattle.std.specs.Prelude.{ℕ, ◌≤◌}

abbrev pub IsKeptBytes : ℕ → Type 0
IsKeptBytes bytes = (1 ≤ bytes) × (bytes ≤ 1000000)
