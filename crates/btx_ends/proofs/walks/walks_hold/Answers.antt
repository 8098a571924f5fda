use Rattle.std.proofs.Common.{rules}
use Rattle.btx_ends.specs.Certificates.{walks_by}
use Rattle.btx_ends.proofs.walks.walks_hold.Goals as goal

pub returns-then-parts_hold : goal.returns-then-parts_hold
returns-then-parts_hold c = λ t. (
  walks_by c.as_slice-walks.result.now,
  (c.parts_hold.ensures (search (rules, c.if-parts_hold.true)), c.all_move.ensures t),
)
