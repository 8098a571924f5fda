use Rattle.btx_check.specs.Running.{Each}
use Rattle.btx_check.specs.Between.{IsLocal}
use Rattle.btx_check.proofs.entries.entries_of.Given as goal

abbrev pub invariant-loop-a : goal.invariant-loop-a
invariant-loop-a l = Each IsLocal l.entries.items
