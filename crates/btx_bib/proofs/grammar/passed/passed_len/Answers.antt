use Rattle.std.proofs.Common.{◌≡◌, ◌∙◌, ◌+◌, ◌&&◌, eqb, false, sym, arith}
use Rattle.btx_bib.specs.language.Grammar.ByteSets.{enclosed_len, ends_enclosed}
use Rattle.btx_bib.proofs.GrammarLemmas.MarkLemmas.{depth_after-le, enclosed-ends, enclosed-on}
use Rattle.btx_bib.proofs.GrammarLemmas.PassedLemmas.{unmarked-on}
use Rattle.btx_bib.proofs.grammar.passed.passed_len.Goals as goal

pub loop-byte-init : goal.loop-byte-init
loop-byte-init c =
    let bound = c.unmarked_len-place.ensures.bound in
    let text = c.args.text.now in
    let place = c.unmarked_len-place.result in
    let none : 0 + place ≡ place = omega arith in
    let begun = unmarked-on c.args.enclosure text place 0 0 (enclosed_len c.args.enclosure 0 text) bound c.unmarked_len-place.ensures.unmarked (omega arith) in
    (rw none at begun, omega arith, rw none at bound)

pub returns-then-ends_enclosed-clause-value : goal.returns-then-ends_enclosed-clause-value
returns-then-ends_enclosed-clause-value c =
    let found = c.in-Some.ensures.lookup in
    enclosed-ends c.args.enclosure c.loop-byte.depth c.args.text.now c.loop-byte.place _ c.in-Some.field-0.now found.3.0 (found.4 (omega arith) 0)
    (sym c.ends_enclosed.ensures ∙ c.if-ends_enclosed.true) c.loop-byte.invariant.0

pub loop-byte-preserved : goal.loop-byte-preserved
loop-byte-preserved c =
    let text = c.args.text.now in
    let place = c.loop-byte.place in
    let byte = c.in-Some.field-0.now in
    let goes_on : (eqb c.loop-byte.depth 0 && ends_enclosed c.args.enclosure byte) ≡ false = sym c.ends_enclosed.ensures ∙ c.if-ends_enclosed.false in
    let further = enclosed-on c.args.enclosure c.loop-byte.depth _ text place _ byte c.in-Some.ensures.lookup.3.0 (c.in-Some.ensures.lookup.4 (omega arith) 0)
    goes_on c.depth_after-depth.ensures c.loop-byte.invariant.0 in
    let bound = c.unmarked_len-place-in-Some.ensures.bound in (
      unmarked-on c.args.enclosure text c.unmarked_len-place-in-Some.result (place + 1) _ _ bound c.unmarked_len-place-in-Some.ensures.unmarked further,
      (let le = depth_after-le c.loop-byte.depth byte in omega (arith, c.depth_after-depth.ensures, c.loop-byte.invariant.1)),
      bound,
    )
