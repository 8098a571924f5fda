use Rattle.std.proofs.Common.{◌≡◌, length}
use Rattle.btx_bib.specs.language.Grammar.Values.{value_at}
use Rattle.btx_bib.specs.refinement.Grammar.Values.{value_end}
use Rattle.btx_bib.proofs.grammar.values.end_of_value.Given as goal

abbrev pub invariant-loop-after : goal.invariant-loop-after
invariant-loop-after l = value_end (value_at l.rest) ≡ value_end (value_at l.text)

abbrev pub decreases-loop-after : goal.decreases-loop-after
decreases-loop-after l = length l.rest
