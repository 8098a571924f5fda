use Rattle.btx_bib.specs.laws.Grammar.Items.{by_history}
use Rattle.btx_bib.proofs.GrammarLemmas.ItemEventLemmas.{item-gives}
use Rattle.btx_bib.proofs.grammar.laws.items_are_read_so.Goals as goal

pub returns : goal.returns
returns c = λ is_stored before text behind at new. item-gives (by_history is_stored) before text behind at new
