use Rattle.std.proofs.Common.{◌≡◌, ◌∙◌, ◌∷◌, ap, sym, refl, length, Some}
use Rattle.btx_bib.specs.language.Grammar.Items.{Step, expected_step}
use Rattle.btx_bib.specs.refinement.Grammar.PlainFields.{plain_step}
use Rattle.btx_bib.proofs.GrammarLemmas.PlainLemmas.{plain-next}
use Rattle.btx_read.specs.declared.content.Content.{Content}
use Rattle.btx_read.specs.declared.content.Content.TheVariants.{Field}
use Rattle.btx_read.specs.Records.{left_at_field, no_key, record_at}
use Rattle.btx_read.specs.Readings.{Reading, records_left}
use Rattle.btx_read.proofs.RecordLemmas.{one-read, plain-says}
use Rattle.btx_read.proofs.reading.RecordReader.take_field.Goals as goal

pub returns : goal.returns
returns c =
    let inside = c.self.inside in
    let text = inside.text.now in
    let field = c.args.field.now in
    let step : Step = plain_step inside.reader.0 field in
    let stands : expected_step inside.reader.0 inside.reader.1 ≡ Some step = rw (← c.self.view_is) at c.requires.stands in
    let says : Content = Field c.new.result (Some c.args.text) in
    let said = plain-says inside.strings field c.new.result c.args.text c.new.ensures (rw (← c.self.view_is) at c.requires.text) c.requires.within in
    let before : c.replace-before.result.now ≡ inside.reader.1 = ap (λ b. b.now) c.replace-before.ensures.value ∙ c.self.invariant.0 in
    let is : c.record_at.result ≡ record_at text says (left_at_field inside.reader.1) field.value.rest.now =
    c.record_at.ensures.record
    ∙ ap (λ left. record_at text says left field.value.rest.now) (c.left_at_field.ensures ∙ ap left_at_field before) in
    ap records_left (sym c.self.view_is)
    ∙ one-read text inside.strings inside.reader.0 inside.reader.1 step says inside.strings
    (plain-next no_key inside.reader.0 inside.reader.1 field stands) said refl
    ∙ ap (λ first. first ∷ records_left (record { text = text; strings = inside.strings; wanted = inside.reader.0; rest = field.value.rest.now })) (sym is)
    ∙ ap (λ reader. c.record_at.result ∷ records_left (record { text = text; strings = inside.strings; wanted = reader.0; rest = reader.1 })) (sym c.pass.ensures)
