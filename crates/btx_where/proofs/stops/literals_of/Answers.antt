use Rattle.std.proofs.Common.{arith}
use Rattle.btx_where.proofs.ShownLemmas.{taken}
use Rattle.btx_where.proofs.stops.literals_of.Goals as goal

pub returns : goal.returns
returns c = taken 8 c.loop-turn.literals.items c.loop-turn.store.literals c.args.store.now.literals c.loop-turn.invariant.all
    (omega (arith, c.loop-turn.invariant.count, c.loop-turn.auto._turn-end, c.loop-turn-test.false))
