use Rattle.std.proofs.Common.{arith}
use Rattle.btx_out.proofs.BreakLemmas.{go_on, wrap_on}
use Rattle.btx_out.proofs.breaking.one_way_to_go_on.Goals as goal

pub returns-clause-wraps : goal.returns-clause-wraps
returns-clause-wraps c line_length t u range = wrap_on line_length t u (omega arith)

pub returns-clause-committed_lines : goal.returns-clause-committed_lines
returns-clause-committed_lines c line_length t u range = (go_on line_length u t (omega arith)).1

pub returns-clause-lefts : goal.returns-clause-lefts
returns-clause-lefts c line_length t u range = (go_on line_length u t (omega arith)).0
