use Rattle.std.proofs.Common.{◌≡◌, ◌+◌, drop}
use Rattle.btx_bst.specs.language.Fronts.{len_till}
use Rattle.btx_bst.proofs.fronts.run_len.Given as goal
use Rattle.btx_bst.specs.laws.Fronts.{ends_name}

abbrev pub invariant-loop-i : goal.invariant-loop-i
invariant-loop-i l = l.i + len_till ends_name (drop l.i l.line) ≡ len_till ends_name l.line
