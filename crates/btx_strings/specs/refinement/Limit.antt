-- A length beside the greatest length of a string.
use Rattle.std.specs.Prelude.{ℕ, ◌<◌, ◌≤◌, Result, Ok, Err}
use Rattle.btx_text.specs.language.Limits.{greatest_string}
use Rattle.btx_text.specs.declared.fault.Fault.{Fault}
use Rattle.btx_text.specs.declared.fault.Fault.TheVariants.{StringLimit}

-- the fault of the limit exactly where a length is above it
abbrev pub KeepsLimit : Result (Unit {0}) Fault → ℕ → Type 0
KeepsLimit (Ok done) length = length ≤ greatest_string
KeepsLimit (Err StringLimit) length = greatest_string < length
KeepsLimit (Err _) length = ⊥
