use Rattle.btx_bst.proofs.BodyLemmas.{map-take}
use Rattle.btx_bst.specs.refinement.Ranges.{tokens_in}
use Rattle.btx_bst.proofs.bodies.Bodies.cut.Goals as goal

pub returns : goal.returns
returns g c = rw (c.truncate.ensures.items, ← c.self.view_is) (map-take (tokens_in c.self.inside.tokens.items) c.args.count c.self.inside.ranges.items)
