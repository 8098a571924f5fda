use Rattle.std.proofs.Common.{rules}
use Rattle.btx_ends.specs.Shortening.{kinds_by}
use Rattle.btx_ends.proofs.descending.descending_holds.Goals as goal

pub returns : goal.returns
returns c = λ t. (
  kinds_by c.args.kinds.now,
  (
    c.kinds_hold.ensures (search (rules, c.if-not-kinds_hold.false)),
    (c.asks_hold.ensures (search (rules, c.if-not-asks_hold.false)), c.lowers_hold.ensures t),
  ),
)
