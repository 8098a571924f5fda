use Rattle.std.proofs.Common.{arith, subst, sym, List, Option, None, ℕ, slice_index_or}
use Rattle.btx_check.specs.Between.{IsShifted}
use Rattle.btx_check.proofs.EntryLemmas.{shifted_step, length_pushed}
use Rattle.btx_check.proofs.state.shifted.Goals as goal

pub loop-number-preserved : goal.loop-number-preserved
loop-number-preserved c = (
  length_pushed _ _ _ _ c.in_ok-push.ensures.items c.loop-number.invariant.0,
  shifted_step _ _ _ _ _ _ _ (omega arith) c.shifted_number-sum.ensures c.loop-number.invariant.0 c.loop-number.invariant.1 c.in_ok-push.ensures.items,
)

pub returns : goal.returns
returns c = record {
  each = λ f. subst (λ (ys : List (Option ℕ)). IsShifted c.args.n (slice_index_or c.args.numbers.now f None) (slice_index_or ys f None))
      (sym c.in_ok-shared.ensures) (c.loop-number.invariant.1 f);
}
