use Rattle.std.proofs.Common.{◌≡◌, ◌+◌, length, arith, length-drop}
use Rattle.btx_bib.proofs.GrammarLemmas.ItemLemmas.{behind_at-some}
use Rattle.btx_read.proofs.places.left_at_item.Goals as goal

pub returns-in-Some : goal.returns-in-Some
returns-in-Some c =
    let place = c.in-Some.place in
    rw (behind_at-some c.args.before.now place c.in-Some.ensures) (omega (arith, length-drop (place + 1) c.args.before.now, c.in-Some.ensures.0.high))
