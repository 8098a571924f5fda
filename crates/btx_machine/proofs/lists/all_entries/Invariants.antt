use Rattle.std.proofs.Common.{◌≡◌, ◌-◌, ◌++◌, length}
use Rattle.btx_machine.proofs.Common.{numbers_from}
use Rattle.btx_machine.proofs.lists.all_entries.Given as goal

abbrev pub invariant-loop-entry : goal.invariant-loop-entry
invariant-loop-entry l = l.list.items ++ numbers_from (length l.job.library.entries - l.entry) l.entry ≡ numbers_from (length l.job.library.entries) 0
