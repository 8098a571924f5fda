use Rattle.std.proofs.Common.{sym, ◌∙◌}
use Rattle.btx_bst.proofs.StyleLemmas.{item_turn-less, item_turn-room, style_from-again}
use Rattle.btx_bst.proofs.RecordedLemmas.{style_recorded-again, style_recorded-ends}
use Rattle.btx_bst.proofs.reader.items.Goals as goal

pub loop-smaller : goal.loop-smaller
loop-smaller g c = let e = rw c.if-branch.true at c.in_ok-item.ensures.turn in item_turn-less _ _ (sym e)

pub loop-preserved : goal.loop-preserved
loop-preserved g c =
    let e = rw c.if-branch.true at c.in_ok-item.ensures.turn in
    let inv = c.loop.invariant in
    record {
      goes = sym (style_from-again _ _ (sym e)) ∙ inv.goes;
      recorded = λ new h. inv.recorded new (λ r k. rw (style_recorded-again _ _ r (sym e)) (h _ (c.in_ok-item.ensures.recorded r k)));
      room = item_turn-room _ _ (sym e) inv.room;
    }

pub returns-clause-recorded : goal.returns-clause-recorded
returns-clause-recorded g c =
    let e = rw c.if-branch.false at c.in_ok-item.ensures.turn in
    c.loop.invariant.recorded _ (λ r k. rw (style_recorded-ends _ _ r (sym e)) (c.in_ok-item.ensures.recorded r k))
