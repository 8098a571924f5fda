use Rattle.std.proofs.Common.{arith}
use Rattle.btx_bib.proofs.GrammarLemmas.WindowLemmas.{value-stands}
use Rattle.btx_bib.proofs.grammar.passed_fields.value_place.Goals as goal

pub returns-clause-value : goal.returns-clause-value
returns-clause-value c =
    let solid = c.solid_bits-solid.ensures in
    value-stands c.args.text.now c.first_from-name.result c.first_from-behind.result c.first_from-sign.result c.first_from-value.result
    (omega (arith, c.if-text-le-BLOCK.false)) c.type_inv.text (omega (arith, c.if-text-ne44.false)) (rw solid at c.first_from-name.ensures.value)
    (rw c.unlike_letter_bits.ensures at c.first_from-behind.ensures.value)
    (omega (arith, c.first_from-behind.ensures.value, c.if-behind-name.false)) (rw solid at c.first_from-sign.ensures.value)
    (omega (arith, c.if-text-sign-ne61.false)) (rw solid at c.first_from-value.ensures.value) (omega (arith, c.if-value-ge-BLOCK.false))
