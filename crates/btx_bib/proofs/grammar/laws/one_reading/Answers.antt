use Rattle.std.proofs.Common.{[]}
use Rattle.btx_bib.specs.laws.Grammar.Items.{by_history}
use Rattle.btx_bib.specs.declared.grammar.commands.Expected.TheVariants.{Item}
use Rattle.btx_bib.proofs.GrammarLemmas.ReadingLemmas.{is_reading, one_reading}
use Rattle.btx_bib.proofs.grammar.laws.one_reading.Goals as goal

pub returns : goal.returns
returns c = record {
  reads = λ is_stored text. is_reading (by_history is_stored) [] Item text;
  only = λ is_stored text events h. one_reading (by_history is_stored) events [] Item text h;
}
