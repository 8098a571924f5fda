use Rattle.std.proofs.Common.{◌≡◌, ◌≤◌, drop}
use Rattle.btx_bst.proofs.IntegerLemmas.{capped_from}
use Rattle.btx_bst.proofs.integers.value_of.Given as goal

-- the digits that are left do the rest
abbrev pub invariant-loop-digit : goal.invariant-loop-digit
invariant-loop-digit l = record {
  value : capped_from l.value (drop l.digit-index l.digits) ≡ capped_from 0 l.digits;
  small : l.value ≤ 4294967296;
}
