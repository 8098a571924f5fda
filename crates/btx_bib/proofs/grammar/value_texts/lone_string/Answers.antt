use Rattle.std.proofs.Common.{◌≡◌, ◌∙◌, [], sym, ap, None, unwrap_or}
use Rattle.btx_bib.specs.language.Grammar.ValueTexts.{shaped}
use Rattle.btx_bib.proofs.GrammarLemmas.SqueezeLemmas.{shaped-nothing}
use Rattle.btx_bib.proofs.grammar.value_texts.lone_string.Goals as goal

pub returns-in-None : goal.returns-in-None
returns-in-None g c =
    let none : g.S.Strings.values c.args.strings.now c.args.name.now ≡ None = sym (rw c.in-None.is at c.in_ok-value_of.ensures.value) in
    c.empty.ensures ∙ sym (ap (λ o. shaped c.args.ends (unwrap_or o [])) none ∙ shaped-nothing c.args.ends)
