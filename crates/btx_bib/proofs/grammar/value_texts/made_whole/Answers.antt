use Rattle.std.proofs.Common.{◌∙◌, sym, ap, length, arith, false}
use Rattle.btx_bib.specs.declared.grammar.value_ends.Ends.TheVariants.{Kept}
use Rattle.btx_bib.specs.refinement.Grammar.Squeezing.{squeezed_after}
use Rattle.btx_bib.specs.language.Grammar.ValueTexts.{value_text}
use Rattle.btx_bib.proofs.GrammarLemmas.SqueezeLemmas.{squeezed-from, fault-same}
use Rattle.btx_bib.proofs.grammar.value_texts.made_whole.Goals as goal
use Rattle.btx_bib.specs.refinement.Grammar.ValueTexts.{joined_text}

pub returns-in-Ok : goal.returns-in-Ok
returns-in-Ok g c =
    let from = squeezed-from (joined_text (g.S.Strings.values c.args.strings.now) c.args.value.now) in
    (c.owned.ensures ∙ c.in-Ok.ensures.0 ∙ sym from, omega (arith, ap length from, c.in-Ok.ensures.1))

pub returns-in-Err : goal.returns-in-Err
returns-in-Err g c =
    let strings = g.S.Strings.values c.args.strings.now in
    let joined = joined_text strings c.args.value.now in
    fault-same c.in-Err.fault (squeezed_after false joined) (value_text Kept strings c.args.value.now) (squeezed-from joined) c.in-Err.ensures
