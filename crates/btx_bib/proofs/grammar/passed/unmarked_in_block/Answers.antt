use Rattle.btx_bib.proofs.GrammarLemmas.PassedLemmas.{braceless_in_block, unmarked_in_block}
use Rattle.btx_bib.proofs.grammar.passed.unmarked_in_block.Goals as goal

pub returns-in-Group-clause-unmarked : goal.returns-in-Group-clause-unmarked
returns-in-Group-clause-unmarked c = rw c.in-Group.is (braceless_in_block c.args.text.now c.args.place _ c.requires c.type_inv.text c.lanes_before.ensures).0

pub returns-in-Group-clause-bound : goal.returns-in-Group-clause-bound
returns-in-Group-clause-bound c = (braceless_in_block c.args.text.now c.args.place _ c.requires c.type_inv.text c.lanes_before.ensures).1

pub returns-in-Quotes-clause-unmarked : goal.returns-in-Quotes-clause-unmarked
returns-in-Quotes-clause-unmarked c =
    rw c.in-Quotes.is (unmarked_in_block c.args.text.now c.args.place _ c.requires c.type_inv.text c.lanes_before-in-Quotes.ensures).0

pub returns-in-Quotes-clause-bound : goal.returns-in-Quotes-clause-bound
returns-in-Quotes-clause-bound c = (unmarked_in_block c.args.text.now c.args.place _ c.requires c.type_inv.text c.lanes_before-in-Quotes.ensures).1
