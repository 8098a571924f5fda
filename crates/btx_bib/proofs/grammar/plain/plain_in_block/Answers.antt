use Rattle.std.proofs.Common.{refl}
use Rattle.btx_bib.proofs.GrammarLemmas.PlainByteLemmas.{plain-in-block}
use Rattle.btx_bib.proofs.grammar.plain.plain_in_block.Goals as goal

pub returns-clause-plain : goal.returns-clause-plain
returns-clause-plain c = (plain-in-block c.args.text.now c.args.place _ _ c.requires.behind c.requires.within c.type_inv.text c.lanes_before.ensures refl
    refl).0

pub returns-clause-bound : goal.returns-clause-bound
returns-clause-bound c = (plain-in-block c.args.text.now c.args.place _ _ c.requires.behind c.requires.within c.type_inv.text c.lanes_before.ensures refl
    refl).1
