use Rattle.std.proofs.Common.{rules}
use Rattle.btx_ends.specs.Certificates.{measures_by}
use Rattle.btx_ends.proofs.checker.texts_hold.Goals as goal

pub returns : goal.returns
returns c = λ t. (
  measures_by c.as_slice-measures.result.now,
  (
    c.ends_hold.ensures (search (rules, c.if-not-ends_hold.false)),
    (
      c.shortens_hold.ensures (search (rules, c.if-not-shortens_hold.false)),
      (c.flags_hold.ensures (search (rules, c.if-not-flags_hold.false)), c.has_integers.ensures t),
    ),
  ),
)
