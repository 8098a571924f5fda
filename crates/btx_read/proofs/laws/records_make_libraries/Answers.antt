use Rattle.btx_read.proofs.ErrorLemmas.{records_make_errors}
use Rattle.btx_read.proofs.LibraryLemmas.{records_make_libraries, records_make_reference_messages}
use Rattle.btx_read.proofs.laws.records_make_libraries.Goals as goal

pub returns : goal.returns
returns c = record { library = records_make_libraries; references = records_make_reference_messages; errors = records_make_errors }
