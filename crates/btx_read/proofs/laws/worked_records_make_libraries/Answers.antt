use Rattle.btx_read.proofs.WorkedRows.{parts-worked}
use Rattle.btx_read.proofs.laws.worked_records_make_libraries.Goals as goal

pub returns : goal.returns
returns c = parts-worked
