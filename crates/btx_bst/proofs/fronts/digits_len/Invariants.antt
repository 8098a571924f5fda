use Rattle.std.proofs.Common.{◌≡◌, ◌+◌, drop}
use Rattle.btx_bst.specs.language.Fronts.{digits_len}
use Rattle.btx_bst.proofs.fronts.digits_len.Given as goal

abbrev pub invariant-loop-i : goal.invariant-loop-i
invariant-loop-i l = l.i + digits_len (drop l.i l.line) ≡ digits_len l.line
