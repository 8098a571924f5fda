use Rattle.btx_ends.proofs.CodeLemmas.{FirstHold, FlagAt}
use Rattle.btx_ends.proofs.checker.flags_hold.Given as goal

abbrev pub invariant-loop-m : goal.invariant-loop-m
invariant-loop-m l = FirstHold (FlagAt l.measures l.integers) l.m-index
