use Rattle.std.proofs.Common.{◌≡◌, replicate}
use Rattle.btx_step.specs.declared.said.Note.TheVariants.{EmptyStack}
use Rattle.btx_step.proofs.said.Notes.empty_stack.Given as goal

abbrev pub invariant-loop-time : goal.invariant-loop-time
invariant-loop-time l = l.notes ≡ replicate l._time EmptyStack
