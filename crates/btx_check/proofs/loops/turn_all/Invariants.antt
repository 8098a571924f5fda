use Rattle.std.proofs.Common.{take}
use Rattle.btx_check.specs.Answers.{TurnedInto}
use Rattle.btx_check.proofs.loops.turn_all.Given as goal

abbrev pub invariant-loop-a : goal.invariant-loop-a
invariant-loop-a l = TurnedInto (take l.a-index l.states) l.initial.again.items l.initial.ends.items l.again.items l.ends.items
