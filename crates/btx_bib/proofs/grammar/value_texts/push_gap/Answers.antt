use Rattle.std.proofs.Common.{◌≡◌, ◌∙◌, true, sym}
use Rattle.btx_bib.specs.language.Grammar.ByteSets.{begins, is_gap}
use Rattle.btx_bib.proofs.GrammarLemmas.PieceLemmas.{gap-again, gap-pushed, gap-white, squeezed_after-no_gap, white_after-no_gap}
use Rattle.btx_bib.proofs.grammar.value_texts.push_gap.Goals as goal

pub returns-then-not-begins_with_gap-clause-text : goal.returns-then-not-begins_with_gap-clause-text
returns-then-not-begins_with_gap-clause-text c =
    squeezed_after-no_gap c.args.was_white c.args.bytes.now c.args.text.now.items (sym c.begins_with_gap.ensures ∙ c.if-not-begins_with_gap.true)

pub returns-then-not-begins_with_gap-clause-white : goal.returns-then-not-begins_with_gap-clause-white
returns-then-not-begins_with_gap-clause-white c =
    white_after-no_gap c.args.was_white c.args.bytes.now (sym c.begins_with_gap.ensures ∙ c.if-not-begins_with_gap.true)

pub returns-in_ok-push-clause-text : goal.returns-in_ok-push-clause-text
returns-in_ok-push-clause-text c =
    let begins : begins is_gap c.args.bytes.now ≡ true = sym c.begins_with_gap.ensures ∙ c.if-not-begins_with_gap.false in
    gap-pushed c.args.was_white c.args.bytes.now c.args.text.now.items c.push.new.self.items begins c.if-not-was_white.true c.in_ok-push.ensures.items

pub returns-in_ok-push-clause-white : goal.returns-in_ok-push-clause-white
returns-in_ok-push-clause-white c =
    gap-white c.args.was_white c.args.bytes.now (sym c.begins_with_gap.ensures ∙ c.if-not-begins_with_gap.false)

pub returns-else-not-was_white-clause-text : goal.returns-else-not-was_white-clause-text
returns-else-not-was_white-clause-text c = gap-again c.args.was_white c.args.bytes.now c.args.text.now.items c.if-not-was_white.false

pub returns-else-not-was_white-clause-white : goal.returns-else-not-was_white-clause-white
returns-else-not-was_white-clause-white c =
    gap-white c.args.was_white c.args.bytes.now (sym c.begins_with_gap.ensures ∙ c.if-not-begins_with_gap.false)
