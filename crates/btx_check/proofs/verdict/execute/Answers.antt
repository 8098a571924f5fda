use Rattle.std.proofs.Common.{arith, rules, subst, List, [], ◌∷◌}
use Rattle.btx_check.specs.States.{Abstract}
use Rattle.btx_check.specs.Inclusion.{Sub}
use Rattle.btx_check.specs.Between.{Visited}
use Rattle.btx_check.proofs.RunLemmas.{push_one}
use Rattle.btx_check.proofs.verdict.execute.Goals as goal

pub returns : goal.returns
returns c = let h = c.in_ok-visit.ensures (search (rules, c.if-not-branch.false)) in record {
  before_is = c.requires.global;
  after_is = c.in_ok-after.ensures;
  few_bodies = omega arith;
  ends = c.visit.new.out.items;
  visited = subst (λ (xs : List Abstract). Visited c.args.style.now c.args.allowed.now c.args.f c.args.deepest xs c.visit.new.out.items)
      (push_one _ _ _ _ c.in_ok-push.ensures.items c.new-starts.ensures.items c.in_ok-start.ensures) h;
  kept = subst (λ (x : Abstract). Sub c.visit.new.out.items (x ∷ [])) c.in_ok-there.ensures
      (subst (λ (xs : List Abstract). Sub xs (c.in_ok-there.there ∷ [])) c.deref-2.ensures.value
      (c.in_ok-all_within.ensures (search (rules, c.if-not-branch-2.false))));
}
