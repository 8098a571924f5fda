use Rattle.std.proofs.Common.{◌∙◌, refl, sym}
use Rattle.btx_bib.specs.refinement.Grammar.PlainFields.{part_in_view, plain_field_view}
use Rattle.btx_bib.proofs.MessageLemmas.{silent-none, silent-some}
use Rattle.btx_bib.proofs.gathering.Pending.take_fast_field.Goals as goal

pub returns-in_default-clause-logged : goal.returns-in_default-clause-logged
returns-in_default-clause-logged c taken database rest =
    silent-none database c.args.strings.now c.args.self.now (plain_field_view c.args.field.now) rest _ (sym c.in_ok-number.ensures ∙ c.in_default.is)

pub returns-in_ok-put-in-Some-2-clause-logged : goal.returns-in_ok-put-in-Some-2-clause-logged
returns-in_ok-put-in-Some-2-clause-logged c taken database rest =
    silent-some database c.args.strings.now c.args.self.now (plain_field_view c.args.field.now) rest _ c.in-Some.number (part_in_view c.args.field.now.value)
    (sym c.in_ok-number.ensures ∙ c.in-Some.is)
    (sym c.has.ensures ∙ c.if-has.false) refl (rw c.in-Some-2.is at c.in_ok-text.ensures.known)
