use Rattle.std.proofs.Common.{refl}
use Rattle.btx_check.proofs.CodeLemmas.{code_empty, top_at, found_at, text_at}
use Rattle.btx_check.proofs.known_rules.empty.Goals as goal

pub returns-in_ok-add_found-in-Text-2 : goal.returns-in_ok-add_found-in-Text-2
returns-in_ok-add_found-in-Text-2 c = λ t. code_empty _ _ _ c.in-Text.m _ _ _ (top_at _ _ _ _ _ (rw c.in-Some.is at c.top_of.ensures) c.in-Text.is)
    (found_at _ _ _ _ _ _ _ _ _ c.in_ok-copy-in-Text.ensures (text_at _ _ c.blank.ensures) c.one.ensures c.in_ok-add_found-in-Text.ensures)
    (found_at _ _ _ _ _ _ _ _ _ refl (text_at _ _ c.filled.ensures) c.zero.ensures c.in_ok-add_found-in-Text-2.ensures)
