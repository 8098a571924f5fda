use Rattle.btx_step.proofs.RowLemmas.{swap_twice, duplicate_pop}
use Rattle.btx_step.proofs.laws.nothing_done.Goals as goal

pub returns : goal.returns
returns c = record { swap = swap_twice; duplicate = duplicate_pop }
