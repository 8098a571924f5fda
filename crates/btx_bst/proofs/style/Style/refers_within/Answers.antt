use Rattle.btx_bst.proofs.style.Style.refers_within.Goals as goal

pub returns : goal.returns
returns c = rw c.self.view_is at c.self.invariant
