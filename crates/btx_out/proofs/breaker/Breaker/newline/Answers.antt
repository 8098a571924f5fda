use Rattle.std.proofs.lemmas.Result.{on_ok_weaker, on_err_weaker}
use Rattle.btx_out.proofs.BreakerLemmas.{ends_all, ends_part}
use Rattle.btx_out.proofs.breaker.Breaker.newline.Goals as goal

pub returns-clause-ok : goal.returns-clause-ok
returns-clause-ok g c =
    let state = rw c.in_ok-state.was at c.ok_or.ensures.ok_part in
    let view = rw state at c.self.view_is in
    on_ok_weaker c.write_end-result.result (λ h text held. ends_all c.self.inside.line_length _ _ text _ _ view held h) c.write_end-result.ensures.ok

pub returns-clause-part : goal.returns-clause-part
returns-clause-part g c =
    let state = rw c.in_ok-state.was at c.ok_or.ensures.ok_part in
    let view = rw state at c.self.view_is in
    on_err_weaker c.write_end-result.result (λ h text held. ends_part c.self.inside.line_length _ _ text _ _ view held h) c.write_end-result.ensures.err
