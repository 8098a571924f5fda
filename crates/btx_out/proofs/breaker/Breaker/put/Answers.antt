use Rattle.btx_out.proofs.BreakerLemmas.{puts_more, puts_part}
use Rattle.btx_out.proofs.breaker.Breaker.put.Goals as goal

pub returns-in-Ok-clause-ok : goal.returns-in-Ok-clause-ok
returns-in-Ok-clause-ok g c text held =
    let state = rw c.in_ok-state.was at c.ok_or.ensures.ok_part in
    let view = rw state at c.self.view_is in
    puts_more c.self.inside.line_length _ _ _ text c.args.bytes.now _ _ view c.self.invariant.0 held c.in-Ok.ensures.state c.in-Ok.ensures.ok

pub returns-in-Err-clause-part : goal.returns-in-Err-clause-part
returns-in-Err-clause-part g c text held =
    let state = rw c.in_ok-state.was at c.ok_or.ensures.ok_part in
    let view = rw state at c.self.view_is in
    puts_part c.self.inside.line_length _ _ text c.args.bytes.now _ _ view c.self.invariant.0 held c.in-Err.ensures.err
