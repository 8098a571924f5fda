use Rattle.std.proofs.Common.{sym, ◌∙◌}
use Rattle.btx_bib.proofs.GrammarLemmas.PlainLemmas.{plain-stands}
use Rattle.btx_bib.proofs.grammar.plain_fields.plain_field.Goals as goal

pub returns-clause-field : goal.returns-clause-field
returns-clause-field c delimiter =
    plain-stands c.args.text.now c.in_ok-behind_sign.field-0.now c.past-rest.result.now c.split_at.result.0.now c.split_at.result.1.now
    c.in_ok-behind_sign-2.field-0.now c.in_ok-value.value.rest.now _
    c.in_ok-byte.field-0-0.now c.in_ok-byte.field-0-1.now c.name_len.result c.in_ok-behind_sign.ensures c.past-rest.ensures c.in_ok-byte.ensures.cases.0
    (sym c.begins_name.ensures ∙ c.if-not-begins_name.false)
    c.name_len.ensures.value c.split_at.ensures.front c.split_at.ensures.back c.in_ok-behind_sign-2.ensures c.in_ok-value.ensures.value delimiter
