use Rattle.std.proofs.Common.{arith}
use Rattle.std.proofs.lemmas.Grind.{common_steps}
use Rattle.btx_aux.proofs.PairLemmas.{files_of_pairs-push}
use Rattle.btx_aux.proofs.memory.MemoryFinder.new.Goals as goal

pub loop-name-preserved : goal.loop-name-preserved
loop-name-preserved c = λ name. grind (arith, common_steps, files_of_pairs-push, c.in_ok-map_err.ensures.cases, c.loop-name.invariant name)
