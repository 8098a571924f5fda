use Rattle.std.proofs.Common.{refl}
use Rattle.btx_bib.proofs.GrammarLemmas.WindowLemmas.{unlike_letter_bits-masked}
use Rattle.btx_bib.proofs.grammar.passed_fields.unlike_letter_bits.Goals as goal

pub returns : goal.returns
returns c = unlike_letter_bits-masked c.args.text.now _ c.requires c.type_inv.text refl
