use Rattle.std.proofs.Common.{rules, arith, ◌≡◌, ◌∙◌, ap, replicate}
use Rattle.btx_bib.specs.declared.places.Place.TheVariants.{Missing}
use Rattle.btx_bib.proofs.TextLemmas.{few-missing}
use Rattle.btx_bib.proofs.few_places.FewPlaces.missing.Goals as goal

pub returns-in-Ok : goal.returns-in-Ok
returns-in-Ok c =
    let same : c.in-Ok.number ≡ c.args.count = search rules in
    few-missing c.missing.result 30 c.in-Ok.number (omega (arith, same, c.if-count-le-FEW.true)) c.missing.ensures ∙ ap (λ count. replicate count Missing) same
