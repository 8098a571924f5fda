use Rattle.std.proofs.Common.{arith}
use Rattle.btx_stack.proofs.LongStrings.{few_owned}
use Rattle.btx_stack.proofs.literals.Literals.push_moved.Goals as goal

pub push_reserved-requires : goal.push_reserved-requires
push_reserved-requires c = omega (
  arith,
  few_owned c.self.inside.slots _ c.self.invariant.0,
  c.self.inside.large.ok.0,
  c.self.invariant.1,
  c.len.ensures.length,
  c.len.ensures.within,
  c.if-len-eq-MOST_LITERALS.false,
)
