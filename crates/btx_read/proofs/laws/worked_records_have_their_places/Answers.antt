use Rattle.btx_read.proofs.WorkedRows.{places-worked}
use Rattle.btx_read.proofs.laws.worked_records_have_their_places.Goals as goal

pub returns : goal.returns
returns c = places-worked
