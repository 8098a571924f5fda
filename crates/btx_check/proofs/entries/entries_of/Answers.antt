use Rattle.btx_check.specs.Between.{IsLocal}
use Rattle.btx_check.proofs.EntryLemmas.{each_pushed}
use Rattle.btx_check.proofs.entries.entries_of.Goals as goal

pub loop-a-preserved : goal.loop-a-preserved
loop-a-preserved c = each_pushed IsLocal _ _ _ c.in_ok-push.ensures.items c.loop-a.invariant c.in_ok-entry.ensures
