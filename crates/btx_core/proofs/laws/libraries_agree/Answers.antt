use Rattle.btx_core.proofs.SameLibraryLemmas.{same_library}
use Rattle.btx_core.proofs.laws.libraries_agree.Goals as goal

pub returns : goal.returns
returns c = same_library
