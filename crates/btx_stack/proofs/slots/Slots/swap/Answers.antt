use Rattle.std.proofs.Common.{rules}
use Rattle.btx_stack.proofs.Swaps.{swap_stands}
use Rattle.btx_stack.proofs.slots.Slots.swap.Goals as goal

pub invariant_of-self-2 : goal.invariant_of-self-2
invariant_of-self-2 c = (search rules, c.self.invariant.1, search (rules, swap_stands))
