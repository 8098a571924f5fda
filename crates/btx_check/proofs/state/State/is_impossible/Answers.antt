use Rattle.std.proofs.Common.{ap, arith, rules}
use Rattle.btx_check.specs.States.{Abstract}
use Rattle.btx_check.proofs.WithinLemmas.{impossible_of}
use Rattle.btx_check.proofs.state.State.is_impossible.Goals as goal

pub returns-then-is_nothing : goal.returns-then-is_nothing
returns-then-is_nothing c = λ t. impossible_of c.args.self.now c.self.inside.values.items c.loop-j.j c.index.result.now
    (ap (λ (a : Abstract). a.values) c.self.view_is) (omega arith) c.index.ensures
    (c.is_nothing.ensures (search (rules, c.if-is_nothing.true)))
