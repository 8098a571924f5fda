use Rattle.std.proofs.Common.{◌∙◌, sym}
use Rattle.btx_bib.proofs.GrammarLemmas.PieceLemmas.{known-apart, known-cut, known-left}
use Rattle.btx_bib.proofs.grammar.value_texts.left_of_squeezed.Goals as goal
use Rattle.btx_bib.proofs.grammar.value_texts.left_of_squeezed.Goals.{else-was_white-via-then-was_white+else-begins_with_gap, else-was_white-via-else-was_white}

pub returns-then-begins_with_gap : goal.returns-then-begins_with_gap
returns-then-begins_with_gap c =
    known-cut c.args.was_white c.args.text.now c.requires c.if-was_white.true (sym c.begins_with_gap.ensures ∙ c.if-begins_with_gap.true)

pub returns-else-was_white : goal.returns-else-was_white
returns-else-was_white c = elim c.else-was_white.branch [
  | else-was_white-via-then-was_white+else-begins_with_gap w ↦
      known-left c.args.was_white c.args.text.now c.requires (sym w.begins_with_gap.ensures ∙ w.if-begins_with_gap.false)
  | else-was_white-via-else-was_white w ↦ known-apart c.args.was_white c.args.text.now c.requires w.if-was_white.false
]
