use Rattle.std.proofs.Common.{◌≡◌, arith}
use Rattle.btx_text.specs.language.Lines.{trimmed}
use Rattle.btx_text.proofs.trimming.without_trailing_white.Goals as goal

pub returns : goal.returns
unfolding trimmed
returns c = let zero : c.loop-end.end ≡ 0 = omega arith in rw zero at c.loop-end.invariant.0
