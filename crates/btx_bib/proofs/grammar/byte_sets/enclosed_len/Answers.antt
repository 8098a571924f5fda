use Rattle.std.proofs.Common.{◌≡◌, ◌∙◌, ◌<◌, ◌+◌, ◌&&◌, eqb, false, sym, ap, get_or, length, length-drop, arith}
use Rattle.std.proofs.lemmas.List.{take_rest}
use Rattle.btx_bib.specs.language.Grammar.ByteSets.{ends_enclosed, enclosed_len}
use Rattle.btx_bib.specs.refinement.Grammar.ByteSets.{is_mark, unmarked_len}
use Rattle.btx_bib.proofs.GrammarLemmas.MarkLemmas.{enclosed-first, enclosed-further, depth_after-le}
use Rattle.btx_bib.proofs.grammar.byte_sets.enclosed_len.Goals as goal

pub loop-byte-init : goal.loop-byte-init
loop-byte-init c =
    let first = c.unmarked_len-place.ensures in
    (enclosed-first c.args.enclosure c.args.text.now c.unmarked_len-place.result first.value, omega arith, first.bound)

pub loop-byte-preserved : goal.loop-byte-preserved
loop-byte-preserved c =
    let text = c.args.text.now in
    let place = c.loop-byte.place in
    let further = c.unmarked_len-place-in-Some in
    let inside : place < length text = c.in-Some.ensures.lookup.3.0 in
    let here : get_or text place 0 ≡ c.in-Some.field-0.now = sym (c.in-Some.ensures.lookup.4 (omega arith) 0) in
    let goes_on : (eqb c.loop-byte.depth 0 && ends_enclosed c.args.enclosure (get_or text place 0)) ≡ false =
    rw here (sym c.ends_enclosed.ensures ∙ c.if-ends_enclosed.false) in
    let rest = take_rest text (place + 1) in
    let mark = further.ensures.value ∙ ap (unmarked_len (is_mark c.args.enclosure)) rest in
    let whole = enclosed-further c.args.enclosure c.loop-byte.depth text place further.result (enclosed_len c.args.enclosure 0 text) inside goes_on mark
    c.loop-byte.invariant.0 in (
      rw (c.depth_after-depth.ensures, ← here) whole,
      (let le = depth_after-le c.loop-byte.depth c.in-Some.field-0.now in omega (arith, c.depth_after-depth.ensures, c.loop-byte.invariant.1)),
      (let len = ap length rest in omega (arith, further.ensures.bound, length-drop (place + 1) text)),
    )
