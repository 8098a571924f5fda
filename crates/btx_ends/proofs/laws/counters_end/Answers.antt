use Rattle.btx_ends.proofs.CounterLemmas.{counters_end, less_one_counts, counted_loops_end}
use Rattle.btx_ends.proofs.laws.counters_end.Goals as goal

pub returns-clause-loops : goal.returns-clause-loops
returns-clause-loops c = counters_end

pub returns-clause-less_one : goal.returns-clause-less_one
returns-clause-less_one c = less_one_counts

pub returns-clause-both : goal.returns-clause-both
returns-clause-both c = counted_loops_end
