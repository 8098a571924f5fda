use Rattle.btx_c.proofs.CleanEndsLemmas.{clean_styles_end_well}
use Rattle.btx_c.proofs.laws.clean_styles_end_well.Goals as goal

pub returns : goal.returns
returns c = clean_styles_end_well
