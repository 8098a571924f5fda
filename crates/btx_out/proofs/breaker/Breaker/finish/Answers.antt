use Rattle.std.proofs.Common.{sym, ◌∙◌}
use Rattle.std.proofs.lemmas.Result.{on_ok_weaker, on_err_weaker}
use Rattle.btx_out.proofs.BreakerLemmas.{finish_fresh, finish_ends, finish_part}
use Rattle.btx_out.proofs.breaker.Breaker.finish.Goals as goal

pub returns-then-is_fresh-clause-ok : goal.returns-then-is_fresh-clause-ok
returns-then-is_fresh-clause-ok g c text held =
    finish_fresh c.args.self.now text _ c.is_fresh.ensures.range held (sym c.is_fresh.ensures.fresh ∙ c.if-is_fresh.true)

pub returns-clause-ok : goal.returns-clause-ok
returns-clause-ok g c =
    let fresh = sym c.is_fresh.ensures.fresh ∙ c.if-is_fresh.false in
    on_ok_weaker c.newline.result (λ h text held. finish_ends c.args.self.now text _ _ fresh held (h text held)) c.newline.ensures.ok

pub returns-clause-part : goal.returns-clause-part
returns-clause-part g c =
    let fresh = sym c.is_fresh.ensures.fresh ∙ c.if-is_fresh.false in
    on_err_weaker c.newline.result (λ h text held. finish_part c.args.self.now text _ _ fresh held (h text held)) c.newline.ensures.part
