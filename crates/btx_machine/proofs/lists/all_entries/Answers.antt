use Rattle.std.proofs.Common.{◌≡◌, ◌-◌, ◌+◌, ◌++◌, ℕ, List, length, sym, subst, arith}
use Rattle.btx_machine.proofs.Common.{numbers_from}
use Rattle.btx_machine.proofs.DoLemmas.{one_entry}
use Rattle.btx_machine.proofs.lists.all_entries.Goals as goal

pub loop-entry-preserved : goal.loop-entry-preserved
loop-entry-preserved c = subst (λ (xs : List ℕ). xs ++ numbers_from (length c.args.job.now.library.entries - (c.loop-entry.entry + 1)) (c.loop-entry.entry + 1)
    ≡ numbers_from (length c.args.job.now.library.entries) 0) (sym c.in_ok-push.ensures.items)
    (one_entry c.loop-entry.list.items (numbers_from (length c.args.job.now.library.entries) 0) (length c.args.job.now.library.entries) c.loop-entry.entry
    (omega arith) c.loop-entry.invariant)
