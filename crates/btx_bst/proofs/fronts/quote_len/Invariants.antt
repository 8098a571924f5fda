use Rattle.std.proofs.Common.{◌≡◌, ◌+◌, drop}
use Rattle.btx_bst.specs.language.Fronts.{quote_len}
use Rattle.btx_bst.proofs.fronts.quote_len.Given as goal

abbrev pub invariant-loop-i : goal.invariant-loop-i
invariant-loop-i l = l.i + quote_len (drop l.i l.line) ≡ quote_len l.line
