use Rattle.std.proofs.Common.{rules}
use Rattle.btx_machine.specs.refinement.Places.{showing}
use Rattle.btx_machine.proofs.StyleMeets.{last_alone}
use Rattle.btx_machine.proofs.last.log_end.Goals as goal

pub returns-clause-last : goal.returns-clause-last
returns-clause-last g c = last_alone (showing (g.L.LogSink.noted c.args.log.now) (g.L.LogSink.handed c.args.log.now))
    (showing (g.L.LogSink.noted c.log_line-2.new.self) (g.L.LogSink.handed c.log_line-2.new.self)) c.args.report _ (search rules) c.log_line-2.ensures.handed
