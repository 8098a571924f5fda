use Rattle.std.proofs.Common.{◌∙◌, not, eqb, rules, tests}
use Rattle.std.proofs.lemmas.Iterator.Search.{find_from_yields_List}
use Rattle.std.proofs.lemmas.Iterator.Adapters.{YieldsList-from_rev_slice}
use Rattle.btx_strings.proofs.periods.last_mark.Goals as goal

pub returns : goal.returns
returns c =
    c.copied.ensures ∙ find_from_yields_List (λ b. not (eqb b 125)) _ _ c.find.result c.find.ensures.ran
    (YieldsList-from_rev_slice c.args.string.now (cc)) (λ x b q k. search (rules, tests))
