use Rattle.btx_strings.proofs.SpecialRows.{specials-worked}
use Rattle.btx_strings.proofs.laws.worked_specials_come_to_this.Goals as goal

pub returns : goal.returns
returns c = specials-worked
