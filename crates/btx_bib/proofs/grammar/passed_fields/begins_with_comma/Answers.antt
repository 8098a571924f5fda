use Rattle.btx_bib.proofs.GrammarLemmas.WindowLemmas.{comma-last}
use Rattle.btx_bib.proofs.grammar.passed_fields.begins_with_comma.Goals as goal

pub returns-then-not-is_empty : goal.returns-then-not-is_empty
returns-then-not-is_empty c is = comma-last c.args.text.now is
