use Rattle.std.proofs.Common.{rules, subst, false, [], ◌∷◌}
use Rattle.btx_check.specs.States.{Abstract}
use Rattle.btx_check.specs.Inclusion.{Within, Sub}
use Rattle.btx_check.specs.Between.{where_entry}
use Rattle.btx_check.proofs.verdict.closes.Goals as goal

pub returns : goal.returns
returns c = λ t. record {
  weaker = subst (λ (x : Abstract). Within x (where_entry false c.args.after.now)) c.in_ok-old.ensures
      (subst (λ (x : Abstract). Within c.in_ok-old.old x) c.in_ok-new.ensures (c.is_within.ensures (search (rules, c.if-not-is_within.false))));
  kept = subst (λ (x : Abstract). Sub c.args.ends.now (x ∷ [])) c.in_ok-here.ensures
      (c.in_ok-all_within.ensures (search (rules, c.if-not-branch.false)));
  into = c.in_ok-all_in.ensures (search (rules, c.if-not-branch-2.false));
}
