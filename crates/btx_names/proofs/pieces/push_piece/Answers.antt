use Rattle.std.proofs.Common.{◌≡◌, ◌<◌, ◌++◌, length, take, drop}
use Rattle.std.proofs.lemmas.Result.{err_from_is_err_and}
use Rattle.btx_names.specs.language.FormattedNames.{with_tokens}
use Rattle.btx_names.specs.refinement.ItemViews.{piece_view}
use Rattle.btx_names.specs.refinement.PartViews.{part_tokens}
use Rattle.btx_names.proofs.PartLemmas.{some_tokens, no_tokens}
use Rattle.btx_names.proofs.PieceLemmas.{piece_of_none, piece_made, opened_too_long, filled_too_long, closed_too_long, fails_too}
use Rattle.btx_names.proofs.pieces.push_piece.Goals as goal
use Rattle.btx_names.proofs.pieces.push_piece.Goals.{After-push, After-push_tokens, After-push-2}

pub returns-then-is_empty-clause-text : goal.returns-then-is_empty-clause-text
returns-then-is_empty-clause-text c =
    piece_of_none c.args.writer.now.mode (piece_view c.args.piece) (part_tokens c.args.part) c.args.writer.now.text.items
    (no_tokens c.args.part.bytes.now c.args.part.tokens.now c.is_empty.result c.is_empty.ensures c.if-is_empty.true)

-- what is known of the text, step by step
some : (c : After-push) → 0 < length (part_tokens c.args.part)
some c = some_tokens c.args.part.bytes.now c.args.part.tokens.now c.is_empty.result c.is_empty.ensures c.if-is_empty.false

opened : (c : After-push_tokens) → c.push.new.self.text.items ≡ c.args.writer.now.text.items ++ (piece_view c.args.piece).before
opened c = rw c.begin_piece.ensures.text at c.in_ok-push.ensures.text

filled : (c : After-push-2) → c.push_tokens.new.writer.text.items ≡ take c.begin_piece.new.self.start c.push.new.self.text.items
    ++ with_tokens c.args.writer.now.mode (piece_view c.args.piece) (drop c.begin_piece.new.self.start c.push.new.self.text.items) (part_tokens c.args.part)
filled c = rw (c.in_ok-push.ensures.start, c.in_ok-push.ensures.mode, c.begin_piece.ensures.mode) at c.in_ok-push_tokens.ensures.text

pub returns-in_err-push-clause-text : goal.returns-in_err-push-clause-text
returns-in_err-push-clause-text c =
    let path = goal.at.returns-in_err-push-clause-text c in
    let p = err_from_is_err_and c.from_residual.result c.from_residual.ensures.1 in
    rw (p.1, p.2)
    (fails_too 1000001 1000000 c.in_err-push.field-0.0 _ _ _ _
    (λ long. opened_too_long c.args.writer.now.mode (piece_view c.args.piece) (part_tokens c.args.part) 1000000 c.args.writer.now.text.items
    (some path.After-push) (rw c.begin_piece.ensures.text at long))
    c.in_err-push.ensures.text)

pub returns-in_err-push_tokens-clause-text : goal.returns-in_err-push_tokens-clause-text
returns-in_err-push_tokens-clause-text c =
    let path = goal.at.returns-in_err-push_tokens-clause-text c in
    let p = err_from_is_err_and c.from_residual-in_err-push_tokens.result c.from_residual-in_err-push_tokens.ensures.1 in
    rw (p.1, p.2)
    (fails_too 1000001 1000000 c.in_err-push_tokens.field-0.0 _ _ _ _
    (λ long. filled_too_long c.args.writer.now.mode (piece_view c.args.piece) (part_tokens c.args.part) c.begin_piece.new.self.start 1000000
    c.args.writer.now.text.items c.push.new.self.text.items (some path.After-push) c.begin_piece.ensures.start (opened path.After-push_tokens)
    (rw (c.in_ok-push.ensures.start, c.in_ok-push.ensures.mode, c.begin_piece.ensures.mode) at long))
    c.in_err-push_tokens.ensures.text)

pub returns-in_err-push-2-clause-text : goal.returns-in_err-push-2-clause-text
returns-in_err-push-2-clause-text c =
    let path = goal.at.returns-in_err-push-2-clause-text c in
    let p = err_from_is_err_and c.from_residual-in_err-push-2.result c.from_residual-in_err-push-2.ensures.1 in
    rw (p.1, p.2)
    (fails_too 1000001 1000000 c.in_err-push-2.field-0.0 _ _ _ _
    (λ long. closed_too_long c.args.writer.now.mode (piece_view c.args.piece) (part_tokens c.args.part) c.begin_piece.new.self.start 1000000
    c.args.writer.now.text.items c.push.new.self.text.items c.push_tokens.new.writer.text.items (some path.After-push) c.begin_piece.ensures.start
    (opened path.After-push_tokens) (filled path.After-push-2) long)
    c.in_err-push-2.ensures.text)

pub returns-clause-text : goal.returns-clause-text
returns-clause-text c =
    let path = goal.at.returns-clause-text c in
    let closed = c.in_ok-push-2.ensures in
    let finished = rw (
      closed.start,
      c.in_ok-push_tokens.ensures.start,
      c.in_ok-push.ensures.start,
      closed.mode,
      c.in_ok-push_tokens.ensures.mode,
      c.in_ok-push.ensures.mode,
      c.begin_piece.ensures.mode,
    ) at c.finish_piece.ensures.text in
    piece_made c.args.writer.now.mode (piece_view c.args.piece) (part_tokens c.args.part) c.begin_piece.new.self.start c.args.writer.now.text.items
    c.push.new.self.text.items c.push_tokens.new.writer.text.items c.push-2.new.self.text.items c.finish_piece.new.self.text.items (some path.After-push)
    c.begin_piece.ensures.start (opened path.After-push_tokens) (filled path.After-push-2) closed.text finished
