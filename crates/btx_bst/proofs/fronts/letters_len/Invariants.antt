use Rattle.std.proofs.Common.{◌≡◌, ◌+◌, drop}
use Rattle.btx_bst.proofs.fronts.letters_len.Given as goal
use Rattle.btx_bst.specs.refinement.Fronts.{letters_len}

abbrev pub invariant-loop-i : goal.invariant-loop-i
invariant-loop-i l = l.i + letters_len (drop l.i l.line) ≡ letters_len l.line
