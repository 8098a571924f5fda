use Rattle.std.proofs.Common.{rules, subst, sym, ◌∙◌}
use Rattle.btx_check.specs.declared.description.Value.{Value}
use Rattle.btx_check.specs.States.{putting, pushing_new}
use Rattle.btx_check.specs.Answers.{Added}
use Rattle.btx_check.proofs.CodeLemmas.{code_known, code_new}
use Rattle.btx_check.proofs.name_rules.name.Goals as goal
use Rattle.std.proofs.Common.{length}

pub returns-in_ok-add_pushed-in-Some : goal.returns-in_ok-add_pushed-in-Some
returns-in_ok-add_pushed-in-Some c = λ t. code_known c.args.f c.args.a c.in-Some.i _ _ (c.is_name.ensures (search (rules, c.if-not-is_name.false)))
    (c.has_value.ensures (search (rules, c.if-not-has_value.false)))
    (c.has_room.ensures (search (rules, c.if-not-has_room.false))) (sym c.slot.ensures ∙ c.in-Some.is)
    c.in_ok-add_pushed-in-Some.ensures

pub returns-in_ok-add_recalled-in-None : goal.returns-in_ok-add_recalled-in-None
returns-in_ok-add_recalled-in-None c = λ t. code_new c.args.f c.args.a _ _ (c.is_name.ensures (search (rules, c.if-not-is_name.false)))
    (c.has_value.ensures (search (rules, c.if-not-has_value.false)))
    (c.has_room.ensures (search (rules, c.if-not-has_room.false)))
    (subst (λ (d : Value). Added (putting c.args.f (length c.args.a.values) (pushing_new d c.args.a)) c.args.out.now.items c.add_recalled.new.out.items)
    c.kind_of.ensures c.in_ok-add_recalled-in-None.ensures)
