use Rattle.std.proofs.Common.{ap, sym, ◌∙◌, arith}
use Rattle.btx_bst.specs.language.Lists.{list_read}
use Rattle.btx_bst.proofs.ListLemmas.{list_turn-less, list_turn-room, list_end-again}
use Rattle.btx_bst.proofs.RoomLemmas.{opening-shorter}
use Rattle.btx_bst.proofs.lists.list.Goals as goal

pub loop-complaint-init : goal.loop-complaint-init
loop-complaint-init c = record {
  goes = let taken = rw c.in_default.is at c.opening.ensures in ap (list_read c.args.kind c.args.names.now) taken;
  room = let h = opening-shorter _ _ _ c.opening.ensures in omega (arith, h, c.requires);
}

pub loop-complaint-smaller : goal.loop-complaint-smaller
loop-complaint-smaller c = let e = rw c.in-Again.is at c.in_ok-turn.ensures in list_turn-less _ _ _ (sym e)

pub loop-complaint-preserved : goal.loop-complaint-preserved
loop-complaint-preserved c =
    let e = rw c.in-Again.is at c.in_ok-turn.ensures in
    let inv = c.loop-complaint.invariant in
    record {
      goes = sym (list_end-again _ _ _ (sym e)) ∙ inv.goes;
      room = let h = list_turn-room _ _ _ (sym e) in omega (arith, h, inv.room);
    }
