use Rattle.std.proofs.Common.{rules}
use Rattle.btx_ends.specs.Keeping.{said_by}
use Rattle.btx_ends.proofs.CodeLemmas.{counted}
use Rattle.btx_ends.proofs.checker.count_holds.Goals as goal

pub returns-then-is_counting : goal.returns-then-is_counting
returns-then-is_counting c = λ t.
    counted c.args.style.now c.args.claim (said_by c.as_slice-keeps.result.now) c.args.body.now (search rules)
    (c.is_counting.ensures (search (rules, c.if-is_counting.true))) (c.functions_keep.ensures t)
