use Rattle.std.proofs.Common.{ap, arith}
use Rattle.btx_check.specs.States.{Abstract}
use Rattle.btx_check.proofs.WithinLemmas.{impossible_of}
use Rattle.btx_check.proofs.state.State.is_impossible_at.Goals as goal

pub returns : goal.returns
returns c = λ t. impossible_of c.args.self.now c.self.inside.values.items c.args.number c.index.result.now
    (ap (λ (a : Abstract). a.values) c.self.view_is) (omega arith) c.index.ensures (c.is_nothing.ensures t)
