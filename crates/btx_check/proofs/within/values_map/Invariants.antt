use Rattle.std.proofs.Common.{ℕ, ◌<◌, length, slice_index_or}
use Rattle.btx_check.specs.declared.description.Value.TheVariants as value
use Rattle.btx_check.specs.Inclusion.{ValueWithin}
use Rattle.btx_check.proofs.within.values_map.Given as goal

abbrev pub invariant-loop-j : goal.invariant-loop-j
invariant-loop-j l = (j : ℕ) → j < l.j → (slice_index_or l.numbers j 0 < length l.a) × ValueWithin (slice_index_or l.a (slice_index_or l.numbers j 0) value.Any)
    (slice_index_or l.b j value.Any)
