use Rattle.std.proofs.Common.{◌≡◌, ℕ, ◌<◌, true}
use Rattle.btx_bst.specs.language.Direct.{is_direct_at}
use Rattle.btx_bst.proofs.direct.is_direct_body.Given as goal

abbrev pub invariant-loop-i : goal.invariant-loop-i
invariant-loop-i l = (k : ℕ) → k < l.i → is_direct_at l.body k ≡ true
