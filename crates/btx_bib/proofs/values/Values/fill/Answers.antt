use Rattle.std.proofs.Common.{rules, ◌≡◌, ◌∙◌, ap, sym, Some, None, is_some, false}
use Rattle.std.specs.Option.{option_or}
use Rattle.std.proofs.lemmas.Result.{IfOk-weaker}
use Rattle.btx_bib.specs.language.Values.{field_value}
use Rattle.btx_bib.specs.refinement.Finding.{changed_at}
use Rattle.btx_bib.proofs.FillingLemmas.{with_value-new}
use Rattle.btx_bib.proofs.ValueLemmas.{filled-kept, filled-none}
use Rattle.btx_bib.proofs.values.Values.fill.Goals as goal

pub returns-then-has : goal.returns-then-has
returns-then-has c = filled-kept c.args.self.now c.args.field (field_value c.args.field c.args.parent.now) (sym c.has.ensures ∙ c.if-has.true)

pub returns-in-Some : goal.returns-in-Some
returns-in-Some c =
    let own = c.args.self.now in
    let lacks : is_some (field_value c.args.field own) ≡ false = sym c.has.ensures ∙ c.if-has.false in
    let given : Some c.in-Some.value ≡ field_value c.args.field c.args.parent.now = search rules in
    let filled = with_value-new own c.args.field c.in-Some.value lacks ∙ ap (λ o. changed_at c.args.field (λ value. option_or value o) own) given in
    IfOk-weaker c.put.result _ _ (λ done is. is ∙ filled) c.put.ensures

pub returns-in-None : goal.returns-in-None
returns-in-None c =
    let given : None ≡ field_value c.args.field c.args.parent.now = search rules in
    filled-none c.args.self.now c.args.field ∙ ap (λ o. changed_at c.args.field (λ value. option_or value o) c.args.self.now) given
