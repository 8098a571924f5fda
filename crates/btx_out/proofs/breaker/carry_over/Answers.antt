use Rattle.btx_out.proofs.KeptLemmas.{carried}
use Rattle.btx_out.proofs.breaker.carry_over.Goals as goal

pub returns-clause-next : goal.returns-clause-next
returns-clause-next c = carried _ _ _ c.requires.room c.requires.inside c.copy_within.ensures.after c.copy_within.ensures.len
