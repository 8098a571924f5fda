use Rattle.std.proofs.Common.{subst, sym, List}
use Rattle.btx_check.specs.States.{Abstract}
use Rattle.btx_check.specs.Answers.{Added}
use Rattle.btx_check.proofs.AddLemmas.{added, added_from}
use Rattle.btx_check.proofs.CodeLemmas.{added_at}
use Rattle.btx_check.proofs.adding.add_sure.Goals as goal

pub returns-then-is_empty : goal.returns-then-is_empty
returns-then-is_empty c = added_from _ _ _ _ c.in_ok-b.ensures
    (added_at _ _ _ _ c.mark.ensures
    (subst (λ (xs : List Abstract). Added c.mark.new.self c.args.out.now.items xs) (sym c.in_ok-push.ensures.items)
    (added c.args.out.now.items c.mark.new.self)))

pub returns : goal.returns
returns c = added_from _ _ _ _ c.in_ok-b.ensures (added_at _ _ _ _ c.mark-2.ensures c.in_ok-add_possible.ensures)
