use Rattle.btx_ends.proofs.kinds.is_or.Goals as goal

pub returns : goal.returns
returns c = λ t. (c.quoted_at-one.result, (c.callee_at-skip.result, c.or_holds.ensures t))
