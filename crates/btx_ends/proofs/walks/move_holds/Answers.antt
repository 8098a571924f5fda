use Rattle.std.proofs.Common.{rules}
use Rattle.btx_ends.specs.Certificates.{walks_by}
use Rattle.btx_ends.specs.Keeping.{said_by}
use Rattle.btx_ends.specs.Shortening.{kinds_by, effects_by}
use Rattle.btx_ends.proofs.CodeLemmas.{move_by}
use Rattle.btx_ends.proofs.walks.move_holds.Goals as goal

pub returns : goal.returns
returns c = λ t.
    move_by c.args.style.now (walks_by c.args.walks.now) (kinds_by c.as_slice.result.now) (effects_by c.as_slice-2.result.now)
    (effects_by c.as_slice-3.result.now) (said_by c.as_slice-4.result.now) c.args.claim c.args.number c.walk_of.result (search rules) c.walk_of.ensures
    (c.moves_by.ensures t)
