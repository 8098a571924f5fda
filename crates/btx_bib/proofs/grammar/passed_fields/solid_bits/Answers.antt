use Rattle.btx_bib.proofs.GrammarLemmas.WindowLemmas.{solid-bits}
use Rattle.btx_bib.proofs.grammar.passed_fields.solid_bits.Goals as goal

pub returns : goal.returns
returns c = solid-bits c.args.text.now c.requires c.type_inv.text
