use Rattle.std.proofs.Common.{refl}
use Rattle.btx_where.proofs.runner.after_files.Goals as goal

pub returns-in-Ends-clause-notes : goal.returns-in-Ends-clause-notes
returns-in-Ends-clause-notes g c = rw c.in-Ends.is refl

pub returns-in-Found-clause-notes : goal.returns-in-Found-clause-notes
returns-in-Found-clause-notes g c = rw c.in-Found.is c.explain_found.ensures.notes
