use Rattle.std.proofs.Common.{arith, ◌≡◌, ◌∙◌, ◌≤◌, ap, sym, length, Some}
use Rattle.std.specs.Option.{option_or}
use Rattle.std.proofs.lemmas.List.{length-map}
use Rattle.btx_bib.specs.language.Values.{field_value}
use Rattle.btx_bib.specs.language.Passes.{inherited_values}
use Rattle.btx_bib.specs.refinement.Finding.{changed_at}
use Rattle.btx_bib.specs.refinement.Values.{text_at}
use Rattle.btx_bib.proofs.ValueLemmas.{inherited-first, inherited-next, inherited-over, inherited-whole}
use Rattle.btx_bib.proofs.values.Values.inherit.Goals as goal

pub loop-field-init : goal.loop-field-init
loop-field-init c =
    let key = c.args.key.now in
    let own = c.args.self.now in
    let first : c.put.new.self ≡ changed_at 0 (λ value. Some key) own = c.in_ok-put.ensures
    ∙ ap (λ k. changed_at 0 (λ value. Some k) own) c.in_ok-to_text.ensures in
    (rw first (inherited-first key own c.args.parent.now), omega arith)

pub loop-field-preserved : goal.loop-field-preserved
loop-field-preserved c =
    let field = c.loop-field.field in
    let parents = c.args.parent.now in (
      c.in_ok-fill.ensures
          ∙ ap (changed_at field (λ value. option_or value (field_value field parents))) c.loop-field.invariant.0
          ∙ inherited-next field c.args.key.now c.put.new.self parents c.loop-field.invariant.1,
      omega arith,
    )

pub returns : goal.returns
returns c =
    let key = c.args.key.now in
    let own = c.args.self.now in
    let parents = c.args.parent.now in
    let texts = c.self.inside.texts in
    let first : c.put.new.self ≡ changed_at 0 (λ value. Some key) own = c.in_ok-put.ensures
    ∙ ap (λ k. changed_at 0 (λ value. Some k) own) c.in_ok-to_text.ensures in
    let count : length c.self.inside.places ≡ length c.put.new.self = sym (length-map c.self.inside.places (text_at texts.lent.items texts.made.items))
    ∙ ap length c.self.view_is in
    let past : length c.put.new.self ≤ c.loop-field.field = omega arith in
    rw (c.shrink_to_fit.ensures.items, c.shrink_to_fit-2.ensures.items)
    (c.self-2.view_is
    ∙ c.loop-field.invariant.0
    ∙ inherited-whole c.loop-field.field key c.put.new.self parents past
    ∙ ap (λ values. inherited_values key values parents) first
    ∙ inherited-over key own parents)
