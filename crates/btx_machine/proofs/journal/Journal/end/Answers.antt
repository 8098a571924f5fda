use Rattle.btx_machine.proofs.Common.{log_counts}
use Rattle.btx_machine.proofs.CountingLemmas.{counts_both}
use Rattle.btx_machine.proofs.journal.Journal.end.Goals as goal

pub invariant_of-self : goal.invariant_of-self
invariant_of-self g c =
    let counts = log_counts c.self.inside.warnings c.self.inside.errors in
    counts_both _ _ _ c.self.inside.since.at.counts counts counts c.self.invariant (c.log_end.ensures.counted counts)
