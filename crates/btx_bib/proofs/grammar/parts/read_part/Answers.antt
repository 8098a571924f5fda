use Rattle.std.proofs.Common.{rules}
use Rattle.btx_bib.proofs.GrammarLemmas.ValueLemmas.{part-shorter}
use Rattle.btx_bib.proofs.grammar.parts.read_part.Goals as goal

pub returns-clause-value : goal.returns-clause-value
returns-clause-value c = search rules

pub returns-clause-shorter : goal.returns-clause-shorter
returns-clause-shorter c = part-shorter _ c.args.text.now (returns-clause-value c)
