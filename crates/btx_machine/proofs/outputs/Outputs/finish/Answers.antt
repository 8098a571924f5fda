use Rattle.btx_machine.proofs.ComesLemmas.{err_map}
use Rattle.btx_machine.proofs.CloseLemmas.{finished_at, finished_part}
use Rattle.btx_machine.proofs.SayLemmas.{on_ok_map}
use Rattle.btx_machine.proofs.outputs.Outputs.finish.Goals as goal

pub returns-clause-ok : goal.returns-clause-ok
returns-clause-ok g c = rw (← c.self.view_is)
    (on_ok_map (finished_at _ (record c.args.self.now { bbl = record c.args.self.now.bbl { received = g.W.Sink.received c.finish.new.sink } })) c.finish.result
    c.finish.ensures.ok)

pub returns-clause-err : goal.returns-clause-err
returns-clause-err g c = rw (← c.self.view_is)
    (err_map (finished_part _ (record c.args.self.now { bbl = record c.args.self.now.bbl { received = g.W.Sink.received c.finish.new.sink } })) c.finish.result
    c.finish.ensures.part)
