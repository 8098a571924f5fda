use Rattle.std.proofs.lemmas.Result.{err_from_is_err_and}
use Rattle.btx_names.proofs.PieceLemmas.{plain_too_long, fails_too}
use Rattle.btx_names.proofs.pieces.push_plain.Goals as goal

pub returns-in_err-push-clause-text : goal.returns-in_err-push-clause-text
returns-in_err-push-clause-text c =
    let p = err_from_is_err_and c.from_residual.result c.from_residual.ensures.1 in
    rw (p.1, p.2)
    (fails_too 1000001 1000000 c.in_err-push.field-0.0 _ _ _ _
    (λ long. plain_too_long c.args.writer.now.mode 1000000 c.args.writer.now.text.items c.begin_piece.new.self.text.items c.args.inside.now
    c.begin_piece.ensures.text long)
    c.in_err-push.ensures.text)
