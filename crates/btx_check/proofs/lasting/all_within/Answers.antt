use Rattle.std.proofs.Common.{arith, rules, subst, List, [], ◌∷◌}
use Rattle.std.proofs.lemmas.List.{take_all}
use Rattle.btx_check.specs.States.{Abstract}
use Rattle.btx_check.specs.Inclusion.{Sub}
use Rattle.btx_check.proofs.AddLemmas.{sub_same}
use Rattle.btx_check.proofs.RunLemmas.{sub_step}
use Rattle.btx_check.proofs.Kept.{into_only}
use Rattle.btx_check.proofs.lasting.all_within.Goals as goal

pub loop-a-preserved : goal.loop-a-preserved
loop-a-preserved c = sub_step _ _ _ (c.args.b.now ∷ []) (c.args.b.now ∷ []) (c.args.b.now ∷ []) (omega arith) c.a-item.is c.loop-a.invariant
    (sub_same (c.args.b.now ∷ []))
    (into_only _ _ (c.in_ok-is_inside.ensures (search (rules, c.if-not-branch.false))))

pub returns : goal.returns
returns c = λ t. subst (λ (xs : List Abstract). Sub xs (c.args.b.now ∷ [])) (take_all c.loop-a.a-index c.args.states.now (omega arith)) c.loop-a.invariant
