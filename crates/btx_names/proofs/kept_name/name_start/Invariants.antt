use Rattle.std.proofs.Common.{◌≡◌, ◌≤◌, drop, length}
use Rattle.btx_names.specs.refinement.NamesFrom.{names_from}
use Rattle.btx_names.proofs.kept_name.name_start.Given as goal

abbrev pub invariant-loop-passed : goal.invariant-loop-passed
invariant-loop-passed l = (l.start ≤ length l.names) × (drop l._passed (names_from l.names l.from) ≡ names_from l.names l.start)
