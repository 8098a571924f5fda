use Rattle.std.proofs.Common.{◌≡◌}
use Rattle.btx_ends.proofs.CodeLemmas.{FirstHold, KindAt}
use Rattle.btx_ends.proofs.kinds.kinds_hold.Given as goal

abbrev pub invariant-loop-kind : goal.invariant-loop-kind
invariant-loop-kind l = (l.number ≡ l.kind-index) × FirstHold (KindAt l.style l.kinds) l.kind-index
