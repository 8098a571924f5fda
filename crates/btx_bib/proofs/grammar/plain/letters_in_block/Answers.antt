use Rattle.std.proofs.Common.{refl}
use Rattle.btx_bib.proofs.GrammarLemmas.PassedLemmas.{letters_in_block}
use Rattle.btx_bib.proofs.grammar.plain.letters_in_block.Goals as goal

pub returns-clause-value : goal.returns-clause-value
returns-clause-value c = (letters_in_block c.args.text.now _ _ c.requires c.type_inv.text c.lanes_before.ensures refl).0

pub returns-clause-bound : goal.returns-clause-bound
returns-clause-bound c = (letters_in_block c.args.text.now _ _ c.requires c.type_inv.text c.lanes_before.ensures refl).1
