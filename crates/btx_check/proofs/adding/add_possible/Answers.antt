use Rattle.std.proofs.Common.{sym, subst, List, arith, rules}
use Rattle.btx_check.specs.States.{Abstract}
use Rattle.btx_check.specs.Answers.{Added}
use Rattle.btx_check.proofs.AddLemmas.{added, added_set, added_inside}
use Rattle.btx_check.proofs.adding.add_possible.Goals as goal

pub returns-then-branch : goal.returns-then-branch
returns-then-branch c = subst (λ (xs : List Abstract). Added c.args.a xs c.loop-k.out.items) c.loop-k.invariant
    (added_inside _ _ _ _ (omega arith) c.index-then-is_alike.ensures (c.in_ok-is_inside.ensures (search (rules, c.if-branch.true))))

pub returns-in-Some : goal.returns-in-Some
returns-in-Some c =
    let w = rw c.in-Some.is at c.in_ok-merged.ensures in
    subst (λ (xs : List Abstract). Added c.args.a xs c.set_at.new.out.items) c.loop-k.invariant
    (subst (λ (xs : List Abstract). Added c.args.a c.loop-k.out.items xs) (sym c.set_at.ensures)
    (added_set c.loop-k.out.items c.loop-k.k c.in-Some.j c.args.a c.index-then-is_alike-2.result.now (omega arith) c.index-then-is_alike-2.ensures w.0 w.1))

pub returns : goal.returns
returns c =
    subst (λ (xs : List Abstract). Added c.args.a xs c.push.new.self.items) c.loop-k.invariant
    (subst (λ (xs : List Abstract). Added c.args.a c.loop-k.out.items xs) (sym c.in_ok-push.ensures.items) (added c.loop-k.out.items c.args.a))
