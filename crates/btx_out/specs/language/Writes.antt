-- Writes that fail.
use Rattle.std.specs.Prelude.{ℕ, ◌==◌, Bool, true, false, if◌then◌else◌, nat_lt, Result, Ok, Err}

-- a write has failed: it gave an error, or took nothing of a piece of this length, which isn't empty
abbrev pub is_failed_write : {E : Type 0} → Result ℕ E → ℕ → Bool
is_failed_write (Ok n) length = if nat_lt 0 length then n == 0 else false
is_failed_write (Err e) length = true
