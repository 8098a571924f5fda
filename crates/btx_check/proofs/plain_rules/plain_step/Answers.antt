use Rattle.std.proofs.Common.{IsTrue, rules}
use Rattle.btx_check.specs.Answers.{Followed}
use Rattle.btx_check.proofs.CodeLemmas.{entry_is}
use Rattle.btx_check.proofs.PlainLemmas.{goes_on}
use Rattle.btx_check.proofs.RunLemmas.{ok_map}
use Rattle.btx_check.proofs.plain_rules.plain_step.Goals as goal
use Rattle.btx_check.proofs.plain_rules.plain_step.Goals.{else-plain-via-then-plain+else-not-has_entry, else-plain-via-else-plain}

pub returns : goal.returns
returns c = ok_map c.follows.result (λ ok. IsTrue ok → Followed c.take-taken.result c.in-Some.plain.pushes c.args.out.now.items c.follows.new.out.items) _
    (λ b h ok. goes_on _ c.in-Some.plain _ _ _ _ _ c.in-Some.ensures
    (elim c.else-plain.branch [
      | else-plain-via-then-plain+else-not-has_entry w ↦ λ needed. entry_is _ _ w.has_entry.ensures (search (rules, w.if-not-has_entry.false))
      | else-plain-via-else-plain w ↦ λ needed. search (rules, w.if-plain.false)
    ])
    c.operands_of.ensures c.take-taken.ensures (h ok)) c.follows.ensures
