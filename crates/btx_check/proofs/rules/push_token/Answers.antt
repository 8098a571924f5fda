use Rattle.std.proofs.Common.{rules, sym, subst, FitsSigned, w32}
use Rattle.std.proofs.lemmas.Int.{to_z-of_z}
use Rattle.btx_bst.specs.declared.token.Token.{Token}
use Rattle.std.proofs.Common.{[], ◌∷◌}
use Rattle.btx_check.specs.Answers.{Stepped}
use Rattle.btx_check.proofs.CodeLemmas.{code_text, code_number, code_quote}
use Rattle.btx_check.proofs.rules.push_token.Goals as goal

pub returns-in_ok-add_new-in-Text : goal.returns-in_ok-add_new-in-Text
returns-in_ok-add_new-in-Text c = λ t allowed deep loops. subst
    (λ (x : Token). Stepped c.args.style.now allowed x (c.args.a ∷ []) deep loops c.args.out.now.items c.add_new.new.out.items) (sym c.in-Text.is)
    (code_text _ _ _ _ c.in-Text.i c.mask_of-mask.result c.text.result.now _ _ _ (c.has_room.ensures (search (rules, c.if-not-has_room.false))) c.text.ensures
    c.mask_of-mask.ensures c.in_ok-add_new-in-Text.ensures)

pub returns-in_ok-add_new-in-Integer : goal.returns-in_ok-add_new-in-Integer
returns-in_ok-add_new-in-Integer c = λ t allowed deep loops. let f : FitsSigned w32 c.in-Integer.n = search rules in
    subst (λ (x : Token). Stepped c.args.style.now allowed x (c.args.a ∷ []) deep loops c.args.out.now.items c.add_new-in-Integer.new.out.items)
    (sym c.in-Integer.is)
    (code_number _ _ _ _ c.in-Integer.n _ _ _ (c.has_room.ensures (search (rules, c.if-not-has_room.false)))
    (simp to_z-of_z at c.in_ok-add_new-in-Integer.ensures))

pub returns-in_ok-add_new-in-Quote : goal.returns-in_ok-add_new-in-Quote
returns-in_ok-add_new-in-Quote c = λ t allowed deep loops. subst
    (λ (x : Token). Stepped c.args.style.now allowed x (c.args.a ∷ []) deep loops c.args.out.now.items c.add_new-in-Quote.new.out.items) (sym c.in-Quote.is)
    (code_quote _ _ _ _ c.in-Quote.f _ _ _ (c.has_room.ensures (search (rules, c.if-not-has_room.false)))
    c.in_ok-add_new-in-Quote.ensures)
