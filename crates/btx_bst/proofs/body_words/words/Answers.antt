use Rattle.std.proofs.Common.{sym, ◌∙◌, arith}
use Rattle.btx_bst.proofs.BodyTurnLemmas.{body_turn-less, body_turn-room, body_end-again}
use Rattle.btx_bst.proofs.RecordedLemmas.{body_recorded-again, body_recorded-ends}
use Rattle.btx_bst.proofs.body_words.words.Goals as goal

pub loop-complaint-smaller : goal.loop-complaint-smaller
loop-complaint-smaller g c = let e = rw c.in-Again.is at c.in_ok-turn.ensures.turn in body_turn-less _ _ _ (sym e)

pub loop-complaint-preserved : goal.loop-complaint-preserved
loop-complaint-preserved g c =
    let e = rw c.in-Again.is at c.in_ok-turn.ensures.turn in
    let inv = c.loop-complaint.invariant in
    record {
      goes = sym (body_end-again _ _ _ (sym e)) ∙ inv.goes;
      recorded = λ new h. inv.recorded new (λ r k. rw (body_recorded-again _ _ _ r (sym e)) (h _ (c.in_ok-turn.ensures.recorded r k)));
      room = let h = body_turn-room _ _ _ (sym e) in omega (arith, h, inv.room);
    }

pub returns-in-Whole-clause-recorded : goal.returns-in-Whole-clause-recorded
returns-in-Whole-clause-recorded g c =
    let e = rw c.in-Whole.is at c.in_ok-turn.ensures.turn in
    c.loop-complaint.invariant.recorded _ (λ r k. rw (body_recorded-ends _ _ _ r (sym e)) (c.in_ok-turn.ensures.recorded r k))

pub returns-in-Broken-clause-recorded : goal.returns-in-Broken-clause-recorded
returns-in-Broken-clause-recorded g c =
    let e = rw c.in-Broken.is at c.in_ok-turn.ensures.turn in
    c.loop-complaint.invariant.recorded _ (λ r k. rw (body_recorded-ends _ _ _ r (sym e)) (c.in_ok-turn.ensures.recorded r k))
