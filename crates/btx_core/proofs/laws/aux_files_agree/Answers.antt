use Rattle.btx_core.proofs.SamePartLemmas as by
use Rattle.btx_core.proofs.laws.aux_files_agree.Goals as goal

pub returns : goal.returns
returns c = by.aux_files
