use Rattle.std.proofs.Common.{arith}
use Rattle.btx_c.proofs.IndexLemmas.{adds_next}
use Rattle.btx_c.proofs.index.Index.new.Goals as goal

pub loop-file-preserved : goal.loop-file-preserved
loop-file-preserved c = λ name. grind (arith, adds_next, c.loop-file.invariant name, c.in_ok-add.ensures name)
