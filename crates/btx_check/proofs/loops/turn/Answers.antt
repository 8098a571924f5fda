use Rattle.btx_check.specs.declared.description.Value.TheVariants as value
use Rattle.std.proofs.Common.{ap}
use Rattle.btx_check.specs.States.{Abstract, knowing}
use Rattle.btx_check.proofs.CodeLemmas.{added_at}
use Rattle.btx_check.proofs.RunLemmas.{turn_one, top_at, splits_of}
use Rattle.btx_check.proofs.loops.turn.Goals as goal

pub returns-in_ok-add_known-in-Integer-2 : goal.returns-in_ok-add_known-in-Integer-2
returns-in_ok-add_known-in-Integer-2 c = λ t. turn_one _ _ _ _ _ _ _ _ _ _ _ (top_at _ _ _ _ _ (rw (c.in-Some.is, c.in_ok-copy.ensures) at
    c.top_of.ensures) c.in-Integer.is)
    (splits_of (value.Integer c.in-Integer.low c.in-Integer.high) c.positive-on.result c.not_positive-off.result c.positive-on.ensures
    c.not_positive-off.ensures)
    (added_at _ _ _ _ (ap (λ (x : Abstract). knowing c.in-Some.t.known.number c.positive-on.result x) c.in_ok-copy-in-Integer.ensures)
    c.in_ok-add_known-in-Integer.ensures) c.in_ok-add_known-in-Integer-2.ensures
