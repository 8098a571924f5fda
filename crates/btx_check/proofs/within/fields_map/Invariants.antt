use Rattle.std.proofs.Common.{ℕ, ◌<◌, slice_index_or, None}
use Rattle.btx_check.specs.Inclusion.{NameMaps}
use Rattle.btx_check.proofs.within.fields_map.Given as goal

abbrev pub invariant-loop-f : goal.invariant-loop-f
invariant-loop-f l = (f : ℕ) → f < l.f → NameMaps l.numbers (slice_index_or l.a f None) (slice_index_or l.b f None)
