use Rattle.btx_run.proofs.OriginLemmas.{lines_are_of_files}
use Rattle.btx_run.proofs.files.laws.lines_are_of_files.Goals as goal

pub returns : goal.returns
returns c = lines_are_of_files
