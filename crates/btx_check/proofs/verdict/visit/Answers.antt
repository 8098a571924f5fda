use Rattle.std.proofs.Common.{rules, subst, List}
use Rattle.btx_check.specs.States.{Abstract}
use Rattle.btx_check.specs.Running.{Each, IsEmpty}
use Rattle.btx_check.proofs.MemoLemmas.{remembers_none}
use Rattle.btx_check.proofs.verdict.visit.Goals as goal

pub run_all-requires : goal.run_all-requires
run_all-requires c = remembers_none c.args.style.now c.args.allowed.now _ c.in_ok-memo.ensures

pub returns : goal.returns
returns c = λ t. let h = (c.in_ok-run_all.ensures (search (rules, c.if-not-branch.false))).0 in record {
  runs = h.steps;
  empty = subst (λ (xs : List Abstract). Each IsEmpty xs) c.deref.ensures.value (c.all_empty.ensures (search (rules, c.if-not-all_empty.false)));
}
