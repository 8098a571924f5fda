use Rattle.std.proofs.Common.{arith, rules, subst, ap, ◌∙◌, List, true}
use Rattle.btx_check.specs.States.{Abstract}
use Rattle.btx_check.specs.Between.{Facts, where_entry, Closes, Joint}
use Rattle.btx_check.proofs.verdict.iterate.Goals as goal

pub returns : goal.returns
returns c = record {
  global = c.in_ok-globals.ensures;
  few_bodies = omega arith;
  starts = c.in_ok-starts.starts.items;
  joint = subst (λ (xs : List Abstract). Joint (where_entry true c.in_ok-globals.globals) xs c.in_ok-starts.starts.items)
      (c.deref.ensures.value ∙ ap (λ (k : Facts). k.entries) c.before-2.view_is) c.in_ok-starts.ensures;
  ends = c.visit.new.out.items;
  visited = c.in_ok-visit.ensures (search (rules, c.if-not-branch.false));
  closes = subst (λ (g : Abstract). Closes g c.in_ok-globals.globals c.visit.new.out.items c.in_ok-entries.entries.items)
      (ap (λ (k : Facts). k.globals) c.before-2.view_is)
      (subst (λ (xs : List Abstract). Closes c.before-2.inside.globals c.in_ok-globals.globals xs c.in_ok-entries.entries.items) c.deref-3.ensures.value
      (subst (λ (xs : List Abstract). Closes c.before-2.inside.globals c.in_ok-globals.globals c.deref-3.result.now xs) c.deref-4.ensures.value
      (c.in_ok-closes.ensures (search (rules, c.if-not-branch-2.false)))));
  local = c.in_ok-entries.ensures;
}
