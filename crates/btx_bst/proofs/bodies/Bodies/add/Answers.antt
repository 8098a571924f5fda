use Rattle.std.proofs.Common.{arith}
use Rattle.btx_bst.proofs.BodyLemmas.{added}
use Rattle.btx_bst.proofs.bodies.Bodies.add.Goals as goal

pub returns : goal.returns
returns g c =
    rw (c.in_ok-push.ensures.items, c.in_ok-extend_from_slice.ensures.items, ← c.self.view_is)
    (added c.self.inside.tokens.items c.args.body.now c.self.inside.ranges.items c.len-from.result c.len.result c.self.invariant
    (let a = c.len-from.ensures in let b = c.self.inside.tokens.ok.0 in omega arith) (let a = c.len.ensures in let b = c.self.inside.tokens.ok.0 in
    omega (arith, c.in_ok-extend_from_slice.ensures.len)))
