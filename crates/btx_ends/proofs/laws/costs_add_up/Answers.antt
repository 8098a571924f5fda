use Rattle.btx_ends.proofs.EndLemmas.{tokens_end, steps_end, loops_end}
use Rattle.btx_ends.proofs.laws.costs_add_up.Goals as goal

pub returns-clause-tokens : goal.returns-clause-tokens
returns-clause-tokens c = tokens_end

pub returns-clause-steps : goal.returns-clause-steps
returns-clause-steps c = steps_end

pub returns-clause-loops : goal.returns-clause-loops
returns-clause-loops c = loops_end
