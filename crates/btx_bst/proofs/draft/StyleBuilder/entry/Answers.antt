use Rattle.std.proofs.Common.{arith}
use Rattle.btx_bst.proofs.RoomLemmas.{list-room}
use Rattle.btx_bst.proofs.draft.StyleBuilder.entry.Goals as goal

pub list-requires-2 : goal.list-requires-2
list-requires-2 c = let h = list-room _ _ _ _ _ _ c.in_ok-complaint.ensures in let r = c.requires.0 in omega (arith, h, r)

pub list-requires-3 : goal.list-requires-3
list-requires-3 c =
    let h = list-room _ _ _ _ _ _ c.in_ok-complaint.ensures in
    let k = list-room _ _ _ _ _ _ c.in_ok-complaint-2.ensures in
    let r = c.requires.0 in
    omega (arith, h, k, r)
