use Rattle.std.proofs.Common.{rules}
use Rattle.btx_out.proofs.PieceLemmas.{pieces}
use Rattle.btx_out.proofs.log.write_whole.Goals as goal

pub loop-at-preserved : goal.loop-at-preserved
loop-at-preserved g c = record {
  within = search (rules, c.in-Ok.ensures.bound);
  received = search (rules, pieces);
  failures = search rules;
}

pub returns-then-taken-eq0-clause-err : goal.returns-then-taken-eq0-clause-err
returns-then-taken-eq0-clause-err g c = search (rules, pieces)

pub returns-in-Err-clause-err : goal.returns-in-Err-clause-err
returns-in-Err-clause-err g c = search (rules, pieces)
