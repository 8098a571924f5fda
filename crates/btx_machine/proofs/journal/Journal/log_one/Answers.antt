use Rattle.btx_machine.proofs.CountingLemmas.{counts_line}
use Rattle.btx_machine.proofs.journal.Journal.log_one.Goals as goal

pub invariant_of-self : goal.invariant_of-self
invariant_of-self g c =
    counts_line _ _ _ c.self.inside.since.at.counts _ _ _ _ c.args.line.now c.kind.result c.kind.ensures c.count.ensures.warnings c.count.ensures.errors
    c.log_line.ensures.noted c.self.invariant
