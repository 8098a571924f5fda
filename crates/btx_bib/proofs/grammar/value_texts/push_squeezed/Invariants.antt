use Rattle.std.proofs.Common.{◌≡◌, ◌++◌, length}
use Rattle.btx_bib.specs.refinement.Grammar.Squeezing.{squeezed_after, white_after}
use Rattle.btx_bib.proofs.grammar.value_texts.push_squeezed.Given as goal

abbrev pub invariant-loop-rest : goal.invariant-loop-rest
invariant-loop-rest l =
    (l.text.items ++ squeezed_after l.white l.rest ≡ l.initial.text.items ++ squeezed_after l.was_white l.bytes)
    × (white_after l.white l.rest ≡ white_after l.was_white l.bytes)

abbrev pub decreases-loop-rest : goal.decreases-loop-rest
decreases-loop-rest l = length l.rest
