use Rattle.std.proofs.Common.{arith}
use Rattle.btx_bst.proofs.RoomLemmas.{opening-shorter, closing-shorter, name-shorter}
use Rattle.btx_bst.proofs.draft.StyleBuilder.function.Goals as goal

pub define-requires-clause-room : goal.define-requires-clause-room
define-requires-clause-room g c =
    let a = opening-shorter _ _ _ c.opening.ensures in
    let b = name-shorter _ _ _ c.name.ensures in
    let d = closing-shorter _ _ _ c.closing.ensures in
    let e = opening-shorter _ _ _ c.opening-2.ensures in
    let r = c.requires.0 in
    (omega (arith, a, b, d, e, r), c.requires.1)
