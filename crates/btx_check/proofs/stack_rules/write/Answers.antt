use Rattle.btx_check.proofs.CodeLemmas.{code_write, top_at}
use Rattle.btx_check.proofs.stack_rules.write.Goals as goal

pub returns-in_ok-add_sure-in-Text : goal.returns-in_ok-add_sure-in-Text
returns-in_ok-add_sure-in-Text c = λ t. code_write _ _ _ c.in-Text.m _ _ (top_at _ _ _ _ _ (rw c.in-Some.is at c.top_of.ensures) c.in-Text.is)
    c.if-m.false c.in_ok-add_sure-in-Text.ensures
