use Rattle.std.proofs.Common.{rules, ◌≡◌, ◌∙◌, ap, None, Some}
use Rattle.std.specs.Prelude.{slice_get}
use Rattle.btx_bib.specs.language.Values.{field_value}
use Rattle.btx_bib.proofs.TextLemmas.{value_at-past, value_at-place}
use Rattle.btx_bib.proofs.values.Values.get.Goals as goal

pub returns-in-Some-clause-value : goal.returns-in-Some-clause-value
returns-in-Some-clause-value c =
    let texts = c.self.inside.texts in
    let places = c.self.inside.places in
    let at : Some c.in-Some.place ≡ slice_get places c.args.field = search rules in
    c.at.ensures.value ∙ value_at-place texts.lent.items texts.made.items places c.args.field c.in-Some.place at ∙ ap (field_value c.args.field) c.self.view_is

pub returns-in-None-clause-value : goal.returns-in-None-clause-value
returns-in-None-clause-value c =
    let texts = c.self.inside.texts in
    let places = c.self.inside.places in
    let at : None ≡ slice_get places c.args.field = search rules in
    value_at-past texts.lent.items texts.made.items places c.args.field at ∙ ap (field_value c.args.field) c.self.view_is
