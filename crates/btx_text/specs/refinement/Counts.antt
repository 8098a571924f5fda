-- Failures of one device, and of two.
use Rattle.std.specs.Prelude.{◌⊎◌, ℕ, Bool, true, false}
use Rattle.btx_text.specs.declared.failures.Failures.{Failures}
use Rattle.btx_text.specs.language.Counts.{Change, Stays, Rises}

-- the failures of a device that wasn't called yet
abbrev pub no_failures : Failures
no_failures = record { count = 0; last_failed = false }

-- the failures of a device whose calls have failed so often, and whose last call failed or didn't
abbrev pub failures_of : ℕ → Bool → Failures
failures_of count last_failed = record { count = count; last_failed = last_failed }

-- one of the calls failed, and none followed it, if this is true; else none failed
abbrev pub RisesIf : Bool → Change → Type 0
RisesIf true failures = Rises failures
RisesIf false failures = Stays failures

-- of exactly one of two devices one call failed, and none followed it
abbrev pub OneOfTwoRises : Change → Change → Type 0
OneOfTwoRises a b = (Rises a × Stays b) ⊎ (Stays a × Rises b)
