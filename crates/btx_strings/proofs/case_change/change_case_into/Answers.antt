use Rattle.std.proofs.Common.{rules, ◌≡◌, ◌<◌, length}
use Rattle.btx_strings.proofs.PieceLemmas.{next_piece, last_piece}
use Rattle.btx_strings.proofs.case_change.change_case_into.Goals as goal

pub loop-rest-preserved : goal.loop-rest-preserved
loop-rest-preserved c =
    let some : 0 < length c.loop-rest.rest.now = search rules in
    next_piece c.args.conversion c.loop-rest.place c.loop-rest.rest.now c.loop-rest.text.items
    c.loop-rest.invariant some c.piece_len.ensures c.split_at.ensures.front c.split_at.ensures.back c.begins.ensures c.place_after-place.ensures
    c.in_ok-push_piece.ensures

pub returns : goal.returns
returns c =
    let none : length c.loop-rest.rest.now ≡ 0 = search rules in
    last_piece c.args.conversion c.loop-rest.place c.loop-rest.rest.now c.loop-rest.text.items c.loop-rest.invariant none
