use Rattle.std.proofs.Common.{◌≡◌, ◌∙◌, ◌<◌, ◌+◌, ◌&&◌, eqb, true, false, sym, get_or, length, arith}
use Rattle.btx_bib.specs.language.Grammar.ByteSets.{ends_enclosed}
use Rattle.btx_bib.specs.refinement.Grammar.Squeezing.{is_behind_white, stays_squeezed}
use Rattle.btx_bib.proofs.GrammarLemmas.MarkLemmas.{depth_after-le, enclosed-ends}
use Rattle.btx_bib.proofs.GrammarLemmas.PlainByteLemmas.{plain-on, read-none, read-on}
use Rattle.btx_bib.proofs.grammar.plain.squeezed_len.Goals as goal

pub loop-byte-init : goal.loop-byte-init
loop-byte-init c = (read-none c.args.enclosure c.args.text.now, omega arith, omega arith)

pub returns-then-ends_enclosed-clause-value : goal.returns-then-ends_enclosed-clause-value
returns-then-ends_enclosed-clause-value c =
    let found = c.in-Some.ensures.lookup in
    let read = c.loop-byte.invariant.0 in (
      enclosed-ends c.args.enclosure c.loop-byte.depth c.args.text.now c.loop-byte.place _ c.in-Some.field-0.now found.3.0 (found.4 (omega arith) 0)
          (sym c.ends_enclosed.ensures ∙ c.if-ends_enclosed.true) read.ended,
      read.squeezed.squeezed,
    )

pub loop-byte-preserved : goal.loop-byte-preserved
loop-byte-preserved c =
    let text = c.args.text.now in
    let place = c.loop-byte.place in
    let byte = c.in-Some.field-0.now in
    let inside : place < length text = c.in-Some.ensures.lookup.3.0 in
    let here : get_or text place 0 ≡ byte = sym (c.in-Some.ensures.lookup.4 (omega arith) 0) in
    let goes_on : (eqb c.loop-byte.depth 0 && ends_enclosed c.args.enclosure byte) ≡ false = sym c.ends_enclosed.ensures ∙ c.if-ends_enclosed.false in
    let stays : stays_squeezed (is_behind_white text place) byte ≡ true = sym c.stays_squeezed.ensures ∙ c.if-not-stays_squeezed.false in
    let further = read-on c.args.enclosure text place c.loop-byte.depth _ byte inside here goes_on stays c.depth_after-depth.ensures c.loop-byte.invariant.0 in
    let bound = c.plain_len-place.ensures.bound in (
      plain-on c.args.enclosure text c.plain_len-place.result (place + 1) _ (omega arith) bound c.plain_len-place.ensures.plain further,
      (let le = depth_after-le c.loop-byte.depth byte in omega (arith, c.depth_after-depth.ensures, c.loop-byte.invariant.1)),
      bound,
    )
