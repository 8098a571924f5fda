use Rattle.btx_bib.proofs.GrammarLemmas.PieceLemmas.{kept-block}
use Rattle.btx_bib.proofs.grammar.squeezing.kept_in_block.Goals as goal

pub returns-clause-kept : goal.returns-clause-kept
returns-clause-kept c = (kept-block c.args.text.now c.args.place _ c.requires.behind c.requires.within c.type_inv.text c.lanes_before.ensures).0

pub returns-clause-bound : goal.returns-clause-bound
returns-clause-bound c = (kept-block c.args.text.now c.args.place _ c.requires.behind c.requires.within c.type_inv.text c.lanes_before.ensures).1
