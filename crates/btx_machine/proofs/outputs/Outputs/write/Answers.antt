use Rattle.std.proofs.Common.{refl}
use Rattle.btx_machine.proofs.ComesLemmas.{err_map}
use Rattle.btx_machine.proofs.OutLemmas.{put_becomes, put_stops}
use Rattle.btx_machine.proofs.SayLemmas.{on_ok_map}
use Rattle.btx_machine.proofs.outputs.Outputs.write.Goals as goal

pub returns-clause-ok : goal.returns-clause-ok
returns-clause-ok g c = rw (← c.self.view_is) (on_ok_map (λ puts start out h. put_becomes start _ _ out h refl c.args.bytes.now puts) c.put.result
    c.put.ensures.ok)

pub returns-clause-err : goal.returns-clause-err
returns-clause-err g c = rw (← c.self.view_is)
    (err_map (λ puts start out h. put_stops start _ _ out h refl c.args.bytes.now puts) c.put.result c.put.ensures.part)
