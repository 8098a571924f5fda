use Rattle.btx_machine.proofs.UniqueLemmas as by
use Rattle.btx_machine.proofs.law.meaning_is_unique.Goals as goal

pub returns : goal.returns
returns c = by.holds
