use Rattle.std.proofs.Common.{rules}
use Rattle.btx_ends.specs.Certificates.{replacements_by}
use Rattle.btx_ends.proofs.replacements.replacing_holds.Goals as goal

pub returns-then-all_filled : goal.returns-then-all_filled
returns-then-all_filled c = λ t. (
  replacements_by c.as_slice-replacements.result.now,
  (c.all_filled.ensures (search (rules, c.if-all_filled.true)), c.all_replace.ensures t),
)
