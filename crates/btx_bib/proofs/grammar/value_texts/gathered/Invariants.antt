use Rattle.std.proofs.Common.{◌≡◌, ◌++◌, ◌≤◌, length}
use Rattle.btx_bib.specs.refinement.Grammar.Squeezing.{squeezed_after}
use Rattle.btx_bib.proofs.grammar.value_texts.gathered.Given as goal
use Rattle.btx_bib.specs.refinement.Grammar.ValueTexts.{joined_text}

abbrev pub invariant-loop-part : goal.invariant-loop-part
invariant-loop-part g l =
    (l.text.items ++ squeezed_after l.white (joined_text (g.S.Strings.values l.strings) l.part-iterator)
    ≡ squeezed_after l.was_white (joined_text (g.S.Strings.values l.strings) l.value))
    × (length l.text.items ≤ l.most)
