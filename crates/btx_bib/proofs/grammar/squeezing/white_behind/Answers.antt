use Rattle.std.proofs.Common.{◌∙◌, sym, ap}
use Rattle.btx_bib.specs.refinement.Grammar.Squeezing.{white_after}
use Rattle.btx_bib.proofs.GrammarLemmas.SqueezeLemmas.{white_after-snoc}
use Rattle.btx_bib.proofs.grammar.squeezing.white_behind.Goals as goal

pub returns-in-Some : goal.returns-in-Some
returns-in-Some c =
    c.is_gap.ensures
    ∙ sym (ap (white_after c.args.was_white) c.in-Some.ensures.cases.0 ∙ white_after-snoc c.args.was_white c.in-Some.field-0-1.now c.in-Some.field-0-0.now)
