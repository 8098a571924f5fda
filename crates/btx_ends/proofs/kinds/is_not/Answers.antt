use Rattle.btx_ends.proofs.kinds.is_not.Goals as goal

pub returns : goal.returns
returns c = λ t. (c.quoted_at-nought.result, (c.quoted_at-one.result, c.not_holds.ensures t))
