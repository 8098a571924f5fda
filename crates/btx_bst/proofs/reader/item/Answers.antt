use Rattle.std.proofs.Common.{◌<◌, ap, arith, length, subst, ◌∙◌}
use Rattle.std.proofs.lemmas.Bool.Decides.{nat_tests}
use Rattle.btx_bst.specs.declared.span.Spot.{Spot}
use Rattle.btx_bst.specs.language.Places.{Place, size}
use Rattle.btx_bst.specs.refinement.DraftViews.{draft_view}
use Rattle.btx_bst.specs.laws.Recorded.{Records, item_recorded_in, spot_at, stretch}
use Rattle.btx_bst.proofs.RecordedLemmas.{item-recorded}
use Rattle.btx_bst.proofs.RoomLemmas.{letters-shorter}
use Rattle.btx_bst.proofs.SizeLemmas.{ink-size}
use Rattle.btx_bst.proofs.reader.item.Goals as goal

pub command-requires : goal.command-requires
command-requires g c =
    let h = letters-shorter _ _ _ c.letters-word.ensures in
    let i = ap (λ (place : Place). size place) c.go_to_ink.ensures in
    (omega (arith, h, i, ink-size c.args.cursor.now, c.requires.0), c.requires.1)

pub returns-in_ok-item-in-None-clause-recorded : goal.returns-in_ok-item-in-None-clause-recorded
returns-in_ok-item-in-None-clause-recorded g c =
    let style = draft_view c.args.draft.now in
    let some : 0 < length c.line.result.now = grind (arith, nat_tests) in
    let new = g.R.Recording.recorded c.item.new.self in
    subst (λ (place : Place). Records (item_recorded_in style place place.line) (g.R.Recording.recorded c.args.recorder.now) new)
    c.go_to_ink.ensures
    (item-recorded style _ c.go_to_ink.new.self c.letters-word.new.self _ c.letters-word.result _ _ _ _ _ (rw c.line.ensures at some) c.letters-word.ensures
    (rw c.in-None.is at c.in_ok-command.ensures.outcome)
    (ap (λ (spot : Spot). stretch spot c.spot-to.result) c.spot-from.ensures ∙ ap (stretch (spot_at c.go_to_ink.new.self)) c.spot-to.ensures)
    c.in_ok-command.ensures.recorded c.in_ok-item-in-None.ensures)

pub returns-in_ok-item-in-Some-clause-recorded : goal.returns-in_ok-item-in-Some-clause-recorded
returns-in_ok-item-in-Some-clause-recorded g c =
    let style = draft_view c.args.draft.now in
    let some : 0 < length c.line.result.now = grind (arith, nat_tests) in
    let new = g.R.Recording.recorded c.item-in-Some.new.self in
    subst (λ (place : Place). Records (item_recorded_in style place place.line) (g.R.Recording.recorded c.args.recorder.now) new)
    c.go_to_ink.ensures
    (item-recorded style _ c.go_to_ink.new.self c.letters-word.new.self _ c.letters-word.result _ _ _ _ _ (rw c.line.ensures at some) c.letters-word.ensures
    (rw c.in-Some.is at c.in_ok-command.ensures.outcome)
    (ap (λ (spot : Spot). stretch spot spot) c.spot-fault.ensures)
    c.in_ok-command.ensures.recorded c.in_ok-item-in-Some.ensures)
