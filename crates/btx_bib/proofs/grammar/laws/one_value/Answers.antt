use Rattle.btx_bib.proofs.GrammarLemmas.SpellingLemmas.{value-decides}
use Rattle.btx_bib.proofs.grammar.laws.one_value.Goals as goal

pub returns : goal.returns
returns c = record { spells = value-decides.total; only = value-decides.only }
