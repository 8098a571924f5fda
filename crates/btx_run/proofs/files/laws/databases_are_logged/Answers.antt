use Rattle.btx_run.proofs.FileLawLemmas.{found_are_numbered, missing_are_errors, one_line_each}
use Rattle.btx_run.proofs.files.laws.databases_are_logged.Goals as goal

pub returns : goal.returns
returns c = record { numbered = found_are_numbered; missing = missing_are_errors; lines = one_line_each }
