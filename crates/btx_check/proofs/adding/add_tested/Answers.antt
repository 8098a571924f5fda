use Rattle.std.proofs.Common.{rules, ap, ◌∙◌}
use Rattle.btx_check.specs.States.{Abstract, knowing, pushing_new}
use Rattle.btx_check.proofs.AddLemmas.{added_nothing}
use Rattle.btx_check.proofs.CodeLemmas.{added_at}
use Rattle.btx_check.proofs.adding.add_tested.Goals as goal

pub returns-then-is_impossible_at : goal.returns-then-is_impossible_at
returns-then-is_impossible_at c = added_at _ _ _ _
    (c.in_ok-push_new.ensures ∙ ap (λ (x : Abstract). pushing_new c.args.answer x)
    (c.know-2.ensures ∙ ap (λ (x : Abstract). knowing c.args.first.number c.args.first.value x) c.know.ensures))
    (added_nothing _ _ (c.is_impossible_at.ensures (search (rules, c.if-is_impossible_at.true))))
