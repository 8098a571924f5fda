use Rattle.btx_bib.proofs.GrammarLemmas.SpellingLemmas.{field-decides}
use Rattle.btx_bib.proofs.grammar.laws.one_field.Goals as goal

pub returns : goal.returns
returns c = record { spells = field-decides.total; only = field-decides.only }
