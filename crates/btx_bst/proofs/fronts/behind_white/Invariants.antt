use Rattle.std.proofs.Common.{◌≡◌, drop}
use Rattle.btx_bst.specs.language.Places.{behind_white}
use Rattle.btx_bst.proofs.fronts.behind_white.Given as goal

abbrev pub invariant-loop-i : goal.invariant-loop-i
invariant-loop-i l = behind_white (drop l.i l.line) ≡ behind_white l.line
