use Rattle.std.proofs.Common.{take, [], ◌∷◌}
use Rattle.btx_check.specs.Inclusion.{Sub}
use Rattle.btx_check.proofs.lasting.all_within.Given as goal

abbrev pub invariant-loop-a : goal.invariant-loop-a
invariant-loop-a l = Sub (take l.a-index l.states) (l.b ∷ [])
