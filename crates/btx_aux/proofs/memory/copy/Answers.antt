use Rattle.std.proofs.Common.{arith}
use Rattle.btx_aux.proofs.TableLemmas.{first_file-pairs_in}
use Rattle.btx_aux.proofs.memory.copy.Goals as goal

pub returns-in_ok-fill-in-Some-clause-bytes : goal.returns-in_ok-fill-in-Some-clause-bytes
returns-in_ok-fill-in-Some-clause-bytes c = grind (arith, first_file-pairs_in c.args.files.now.entries c.args.name.now)

pub returns-in-None-clause-bytes : goal.returns-in-None-clause-bytes
returns-in-None-clause-bytes c = grind (arith, first_file-pairs_in c.args.files.now.entries c.args.name.now)
