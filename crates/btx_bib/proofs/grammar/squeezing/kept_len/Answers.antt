use Rattle.std.proofs.Common.{◌≡◌, ◌∙◌, ◌<◌, ◌+◌, true, sym, get_or, length, take, arith}
use Rattle.btx_bib.specs.refinement.Grammar.Squeezing.{stays_squeezed, white_after}
use Rattle.btx_bib.proofs.GrammarLemmas.PieceLemmas.{kept-none, kept-on, kept-one}
use Rattle.btx_bib.proofs.grammar.squeezing.kept_len.Goals as goal

pub loop-byte-init : goal.loop-byte-init
loop-byte-init c = (kept-none c.args.was_white c.args.text.now, omega arith)

pub loop-byte-preserved : goal.loop-byte-preserved
loop-byte-preserved c =
    let text = c.args.text.now in
    let place = c.loop-byte.place in
    let byte = c.in-Some.field-0.now in
    let inside : place < length text = c.in-Some.ensures.lookup.3.0 in
    let here : get_or text place 0 ≡ byte = sym (c.in-Some.ensures.lookup.4 (omega arith) 0) in
    let stays : stays_squeezed (white_after c.args.was_white (take place text)) byte ≡ true = sym c.stays.ensures ∙ c.if-not-stays.false in
    let further = kept-one c.args.was_white text place byte inside here c.loop-byte.invariant.0 stays in
    let bound = c.kept_at-place.ensures.bound in
    (kept-on c.args.was_white text c.kept_at-place.result (place + 1) (omega arith) bound c.kept_at-place.ensures.kept further, bound)
