use Rattle.std.proofs.Common.{refl}
use Rattle.btx_machine.proofs.ComesLemmas.{err_map}
use Rattle.btx_machine.proofs.OutLemmas.{ended_becomes, ended_stops}
use Rattle.btx_machine.proofs.SayLemmas.{on_ok_both}
use Rattle.btx_machine.proofs.outputs.Outputs.end_line.Goals as goal

pub returns-clause-ok : goal.returns-clause-ok
returns-clause-ok g c = rw (← c.self.view_is) (on_ok_both (λ ends fresh start out h. ended_becomes start _ _ out h refl ends fresh) c.newline.result
    c.newline.ensures.ok c.newline.ensures.fresh)

pub returns-clause-err : goal.returns-clause-err
returns-clause-err g c = rw (← c.self.view_is) (err_map (λ ends start out h. ended_stops start _ _ out h refl ends) c.newline.result c.newline.ensures.part)
