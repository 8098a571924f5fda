use Rattle.std.proofs.Common.{rules}
use Rattle.btx_out.proofs.PieceLemmas.{pieces}
use Rattle.btx_out.proofs.log.Log.line.Goals as goal

pub returns-in_err-write_whole-clause-err : goal.returns-in_err-write_whole-clause-err
returns-in_err-write_whole-clause-err g c = search (rules, pieces)

pub returns-clause-err : goal.returns-clause-err
returns-clause-err g c = search (rules, pieces)
