use Rattle.std.proofs.Common.{◌≡◌, take}
use Rattle.btx_check.proofs.loops.copies_of.Given as goal

abbrev pub invariant-loop-a : goal.invariant-loop-a
invariant-loop-a l = l.copies.items ≡ take l.a-index l.states
