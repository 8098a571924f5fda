use Rattle.std.proofs.Common.{◌≡◌, ◌++◌, map, length}
use Rattle.btx_step.specs.declared.said.Note.TheVariants.{Shown}
use Rattle.btx_step.proofs.store.stacks.take_shown.Given as goal

abbrev pub invariant-loop-notes : goal.invariant-loop-notes
invariant-loop-notes l = l.notes ++ map Shown l.literals ≡ map Shown l.fn.literals

abbrev pub decreases-loop-notes : goal.decreases-loop-notes
decreases-loop-notes l = length l.literals
