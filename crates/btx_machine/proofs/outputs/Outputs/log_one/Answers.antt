use Rattle.std.proofs.Common.{refl}
use Rattle.btx_machine.proofs.ComesLemmas.{err_map}
use Rattle.btx_machine.proofs.SayLemmas.{on_ok_map, logged_becomes, logged_stops}
use Rattle.btx_machine.proofs.outputs.Outputs.log_one.Goals as goal

pub returns-clause-ok : goal.returns-clause-ok
returns-clause-ok g c = rw (← c.self.view_is) (on_ok_map (logged_becomes c.args.line.now _ _ refl refl c.log_one.ensures.warnings c.log_one.ensures.errors)
    c.log_one.result c.log_one.ensures.ok)

pub returns-clause-err : goal.returns-clause-err
returns-clause-err g c = rw (← c.self.view_is) (err_map (logged_stops c.args.line.now _ _ refl) c.log_one.result c.log_one.ensures.err)
