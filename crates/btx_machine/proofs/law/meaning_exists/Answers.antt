use Rattle.btx_machine.proofs.EquationLemmas as by
use Rattle.btx_machine.proofs.law.meaning_exists.Goals as goal

pub returns : goal.returns
returns c = by.holds
