use Rattle.std.proofs.Common.{sym}
use Rattle.btx_bib.proofs.GrammarLemmas.SqueezeLemmas.{shaped-stands}
use Rattle.btx_bib.proofs.grammar.value_texts.short.Goals as goal

pub returns-then-text-le-GREATEST_STRING-clause-value : goal.returns-then-text-le-GREATEST_STRING-clause-value
returns-then-text-le-GREATEST_STRING-clause-value c = sym (shaped-stands c.args.ends c.args.text.now c.requires)
