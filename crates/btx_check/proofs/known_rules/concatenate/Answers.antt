use Rattle.btx_check.proofs.CodeLemmas.{code_concatenate, text_at, two_at}
use Rattle.btx_check.proofs.known_rules.concatenate.Goals as goal

pub returns-in_ok-add_new-in-Text-Text : goal.returns-in_ok-add_new-in-Text-Text
returns-in_ok-add_new-in-Text-Text c = λ t. code_concatenate _ _ _ _ c.in-Text-Text.m c.in-Text-Text.n _ _ _
    (two_at _ _ _ _ _ _ _ _ (rw c.in-Some.is at c.pair_of.ensures) c.in-Text-Text.is-0 c.in-Text-Text.is-1) c.if-m.false c.if-n.false
    (text_at _ _ c.followed-whole.ensures) c.in_ok-add_new-in-Text-Text.ensures
