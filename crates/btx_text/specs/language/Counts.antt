-- Failures of a device. A finder and a sink each count how often a call of theirs has failed, and know whether the last one did; a `u64` holds the count, so
-- that from the greatest value it goes to 0. Whatever works with them stops at the first failure: one count at most changes in it, by one, and the call that
-- failed is the last one.
use Rattle.std.specs.Prelude.{◌≡◌, ℕ, ◌+◌, ◌%◌, ◌^◌, ◌⊎◌, Bool, true, if◌then◌else◌}
use Rattle.btx_text.specs.declared.failures.Failures.{Failures}

-- a count of failures after one more call: one more if the call failed, else the same; a counter of 64 bits, it goes back to 0 after its greatest value
abbrev pub count_after : Bool → ℕ → ℕ
count_after failed n = if failed then (n + 1) % 2 ^ 64 else n

-- the failures after one more call: the count, and that this call is the last one
abbrev pub failures_after : Bool → Failures → Failures
failures_after failed before = record { count = count_after failed before.count; last_failed = failed }

-- the failures of a device before and after some calls
abbrev pub Change : Type 0
Change = Failures × Failures

-- none of the calls failed: the count is the same after them as before
abbrev pub Stays : Change → Type 0
Stays failures = failures.1.count ≡ failures.0.count

-- exactly one of the calls failed, and no call followed it: the count is one more, and the last call is one that failed
abbrev pub Rises : Change → Type 0
Rises failures = (failures.1.count ≡ (failures.0.count + 1) % 2 ^ 64) × (failures.1.last_failed ≡ true)

-- of exactly one of three devices one call failed, and none followed it; for a run they are the finder's, the list's and the log's
abbrev pub OneOfThreeRises : Change → Change → Change → Type 0
OneOfThreeRises a b c = (Rises a × Stays b × Stays c) ⊎ (Stays a × Rises b × Stays c) ⊎ (Stays a × Stays b × Rises c)
