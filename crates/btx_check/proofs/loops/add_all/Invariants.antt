use Rattle.btx_check.specs.Inclusion.{Sub}
use Rattle.btx_check.proofs.loops.add_all.Given as goal

abbrev pub invariant-loop-a : goal.invariant-loop-a
invariant-loop-a l = Sub l.yielded l.out.items × Sub l.initial.out.items l.out.items
