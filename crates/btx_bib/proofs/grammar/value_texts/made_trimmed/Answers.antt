use Rattle.std.proofs.Common.{◌∙◌, sym, ap, length, arith, true}
use Rattle.btx_bib.specs.declared.grammar.value_ends.Ends.TheVariants.{Trimmed}
use Rattle.btx_bib.specs.refinement.Grammar.Squeezing.{squeezed_after}
use Rattle.btx_bib.specs.language.Grammar.ValueTexts.{without_last_space, value_text}
use Rattle.btx_bib.proofs.GrammarLemmas.SqueezeLemmas.{shaped-trimmed, fault-fits}
use Rattle.btx_bib.proofs.grammar.value_texts.made_trimmed.Goals as goal
use Rattle.btx_bib.specs.refinement.Grammar.ValueTexts.{joined_text}

pub returns-in-Err : goal.returns-in-Err
returns-in-Err g c =
    let strings = g.S.Strings.values c.args.strings.now in
    let joined = joined_text strings c.args.value.now in
    fault-fits c.in-Err.fault (squeezed_after true joined) (value_text Trimmed strings c.args.value.now) (shaped-trimmed joined) c.in-Err.ensures

pub returns-then-len-gt-GREATEST_STRING : goal.returns-then-len-gt-GREATEST_STRING
returns-then-len-gt-GREATEST_STRING g c =
    let strings = g.S.Strings.values c.args.strings.now in
    let made = shaped-trimmed (joined_text strings c.args.value.now) ∙ ap without_last_space (sym c.in-Ok.ensures.0) ∙ sym c.drop_last_space.ensures in
    omega (arith, ap length made)

pub returns : goal.returns
returns g c =
    let strings = g.S.Strings.values c.args.strings.now in
    let made = shaped-trimmed (joined_text strings c.args.value.now) ∙ ap without_last_space (sym c.in-Ok.ensures.0) ∙ sym c.drop_last_space.ensures in
    (c.owned.ensures ∙ sym made, omega (arith, ap length made))
