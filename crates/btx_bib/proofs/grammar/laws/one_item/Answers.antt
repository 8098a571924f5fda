use Rattle.btx_bib.proofs.GrammarLemmas.WholeItemLemmas.{item-decides}
use Rattle.btx_bib.proofs.grammar.laws.one_item.Goals as goal

pub returns : goal.returns
returns c = record { spells = item-decides.total; only = item-decides.only }
