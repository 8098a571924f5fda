use Rattle.btx_ends.proofs.kinds.is_and.Goals as goal

pub returns : goal.returns
returns c = λ t. (c.quoted_at-nought.result, (c.callee_at-skip.result, c.and_holds.ensures t))
