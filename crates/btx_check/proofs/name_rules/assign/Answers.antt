use Rattle.std.proofs.Common.{rules}
use Rattle.btx_check.proofs.CodeLemmas.{code_assign_integer, code_assign_text, two_at}
use Rattle.btx_check.proofs.name_rules.assign.Goals as goal

pub returns-in_ok-add_put-in-Integer : goal.returns-in_ok-add_put-in-Integer
returns-in_ok-add_put-in-Integer c = λ t allowed deep loops. code_assign_integer _ _ _ _ _ _ _ _ c.in-Function.f _ _ _ _
    (two_at _ _ _ _ _ _ _ _ (rw c.in-Some.is at c.pair_of.ensures) c.in-Function.is c.in-Integer.is)
    (rw c.in-Integer.is at (c.is_assignable.ensures (search (rules, c.if-not-is_assignable.false)))) c.in_ok-add_put-in-Integer.ensures

pub returns-in_ok-add_text_put-in-Text : goal.returns-in_ok-add_text_put-in-Text
returns-in_ok-add_text_put-in-Text c = let can = rw c.in-Text.is at (c.is_assignable.ensures (search (rules, c.if-not-is_assignable.false))) in
    λ t allowed deep loops. code_assign_text _ _ _ _ _ _ _ _ c.in-Function.f c.in-Text.m _ _
    (two_at _ _ _ _ _ _ _ _ (rw c.in-Some.is at c.pair_of.ensures) c.in-Function.is c.in-Text.is) can.0 can.1 c.in_ok-add_text_put-in-Text.ensures
