use Rattle.std.proofs.Common.{rules}
use Rattle.btx_step.proofs.OperandLemmas.{reported}
use Rattle.btx_step.proofs.store.Store.run_built_in.Goals as goal

pub returns-in-Some : goal.returns-in-Some
returns-in-Some c = reported c.args.job.now c.args.function _ c.args.self.now (search rules) (rw c.in-Some.is at c.in_ok-outcome.ensures.some)
