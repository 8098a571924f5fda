use Rattle.std.proofs.Common.{◌∙◌}
use Rattle.btx_aux.specs.refinement.KeyTable.{spelled_in}
use Rattle.btx_aux.proofs.KeyLemmas.{place_in}
use Rattle.btx_aux.proofs.keys.Keys.position.Goals as goal

pub returns : goal.returns
returns c =
    c.get_index_of.ensures.index
    ∙ place_in c.self.inside.lowered.keys (spelled_in c.self.inside.spelled c.self.inside.lowered.keys) c.args.lowered.now c.args.self.now c.self.invariant
    c.self.view_is
