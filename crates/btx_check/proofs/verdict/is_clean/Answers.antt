use Rattle.std.proofs.Common.{arith, subst, sym}
use Rattle.btx_check.specs.Between.{IsGlobal}
use Rattle.btx_check.proofs.Commands.{begins, starts_global, found_more, found_all}
use Rattle.btx_check.proofs.verdict.is_clean.Goals as goal

pub loop-item-init : goal.loop-item-init
loop-item-init c = (
  begins _ _ _ _ _ c.in_ok-nothing.ensures.starts c.in_ok-known.ensures,
  subst IsGlobal (sym c.in_ok-known.ensures.globals_are) (starts_global _ c.in_ok-nothing.ensures.starts),
)

pub loop-item-preserved : goal.loop-item-preserved
loop-item-preserved c = (
  found_more _ _ _ _ _ _ _ _ (omega arith) (rw c.in-Some.is at c.in_ok-command.ensures.found) c.loop-item.invariant.0,
  rw c.in-Some.is at c.in_ok-command.ensures.global,
)

pub returns : goal.returns
returns c = λ t. found_all _ _ _ c.loop-item.item-index c.items-items.result.now _ (omega arith) c.items-items.ensures c.loop-item.invariant.0
