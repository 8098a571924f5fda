use Rattle.std.proofs.Common.{rules}
use Rattle.btx_ends.specs.Certificates.{climbs_by}
use Rattle.btx_ends.proofs.climbs.climbs_hold.Goals as goal

pub returns-then-limits_hold : goal.returns-then-limits_hold
returns-then-limits_hold c = λ t. (
  climbs_by c.as_slice-climbs.result.now,
  (c.limits_hold.ensures (search (rules, c.if-limits_hold.true)), c.all_raise.ensures t),
)
