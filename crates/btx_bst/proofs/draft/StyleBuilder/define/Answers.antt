use Rattle.std.proofs.Common.{◌≡◌, ◌∙◌, ap, arith, ℕ, List, length, Bor}
use Rattle.btx_bst.specs.refinement.Views.{texts_view}
use Rattle.btx_bst.specs.refinement.DraftViews.{draft_view}
use Rattle.btx_bst.proofs.BodyLemmas.{map-take, texts-length}
use Rattle.btx_bst.proofs.RoomLemmas.{body-room}
use Rattle.btx_bst.proofs.DefineLemmas.{defined-broken}
use Rattle.btx_bst.proofs.draft.StyleBuilder.define.Goals as goal

pub returns-in-Some-clause-outcome : goal.returns-in-Some-clause-outcome
returns-in-Some-clause-outcome g c =
    let e = rw c.in-Some.is at c.in_ok-complaint.ensures.body in
    let d = c.args.self.now in
    let n = c.len-texts.result in
    let same : length (texts_view d.texts.items) ≡ length d.texts.items = texts-length d.texts.items in
    let count : n ≡ length (texts_view d.texts.items) = omega (arith, c.len-texts.ensures, d.texts.ok.0, same) in
    defined-broken (draft_view d) c.args.lowered c.args.cursor.now _ _ _ c.len-count.result n c.cut.new.self (texts_view c.truncate.new.self.items)
    c.new-current.ensures e c.len-count.ensures c.cut.ensures count
    (ap texts_view c.truncate.ensures.items ∙ map-take (λ (b : Bor (List ℕ)). b.now) n c.body.new.texts.items)

pub overflow_cast-number : goal.overflow_cast-number
overflow_cast-number g c =
    let g = body-room _ _ _ _ c.in_ok-complaint.ensures.body in
    let r = c.requires.room.0 in
    omega (arith, g.0, r, c.len-number.ensures)

pub overflow_cast-number-2 : goal.overflow_cast-number-2
overflow_cast-number-2 g c =
    let g = body-room _ _ _ _ c.in_ok-complaint.ensures.body in
    let r = c.requires.room.0 in
    omega (arith, g.0, r, c.len-number.ensures)

pub add_function-requires-clause-further : goal.add_function-requires-clause-further
add_function-requires-clause-further g c =
    let g = body-room _ _ _ _ c.in_ok-complaint.ensures.body in
    let r = c.requires.room.1 in
    omega (arith, g.1.0.0, r, c.len-number.ensures)
