use Rattle.btx_check.proofs.CodeLemmas.{code_duplicate, added_at, pushed_back}
use Rattle.std.proofs.Common.{ap}
use Rattle.btx_check.specs.States.{Abstract, pushing}
use Rattle.btx_check.proofs.stack_rules.duplicate.Goals as goal

pub returns-in_ok-add_pushed_both-in-Some : goal.returns-in_ok-add_pushed_both-in-Some
returns-in_ok-add_pushed_both-in-Some c =
    let on_top = rw c.in-Some.is at c.top_of.ensures in
    λ t. code_duplicate _ _ _ _ _ _ on_top
    (added_at _ _ _ _ (ap (λ (x : Abstract). pushing c.in-Some.t.known.number x) (pushed_back _ _ _ _ on_top)) c.in_ok-add_pushed_both-in-Some.ensures)
