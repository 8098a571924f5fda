use Rattle.std.proofs.Common.{rules, ◌≡◌, ◌∙◌, ap, None, Some}
use Rattle.std.specs.Prelude.{slice_get}
use Rattle.std.proofs.lemmas.Result.{IfOk-weaker}
use Rattle.btx_bib.specs.language.Values.{field_value}
use Rattle.btx_bib.proofs.TextLemmas.{value_at-past, value_at-place}
use Rattle.btx_bib.proofs.values.Values.copied.Goals as goal

pub returns-in-Some : goal.returns-in-Some
returns-in-Some c =
    let texts = c.self.inside.texts in
    let places = c.self.inside.places in
    let at : Some c.in-Some.place ≡ slice_get places c.args.field = search rules in
    let is = value_at-place texts.lent.items texts.made.items places c.args.field c.in-Some.place at ∙ ap (field_value c.args.field) c.self.view_is in
    IfOk-weaker c.copied.result _ _ (λ copy same. same ∙ is) c.copied.ensures

pub returns-in-None : goal.returns-in-None
returns-in-None c =
    let texts = c.self.inside.texts in
    let places = c.self.inside.places in
    let at : None ≡ slice_get places c.args.field = search rules in
    value_at-past texts.lent.items texts.made.items places c.args.field at ∙ ap (field_value c.args.field) c.self.view_is
