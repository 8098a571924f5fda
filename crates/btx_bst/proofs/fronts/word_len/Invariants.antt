use Rattle.std.proofs.Common.{◌≡◌, ◌+◌, drop}
use Rattle.btx_bst.specs.language.Fronts.{word_len}
use Rattle.btx_bst.proofs.fronts.word_len.Given as goal

abbrev pub invariant-loop-i : goal.invariant-loop-i
invariant-loop-i l = l.i + word_len (drop l.i l.line) ≡ word_len l.line
