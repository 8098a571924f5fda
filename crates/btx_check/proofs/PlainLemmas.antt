-- The plain rules in the form in which the code meets them.
use Rattle.std.proofs.Common.{◌≡◌, List, Option, Some, true, sym, subst}
use Rattle.std.specs.Option.{IfSome}
use Rattle.btx_bst.specs.declared.built_in.BuiltIn.{BuiltIn}
use Rattle.btx_bst.specs.declared.callee.Callee.TheVariants as callee
use Rattle.btx_step.specs.declared.operands.Operand.{Operand}
use Rattle.btx_step.specs.language.Table.{row}
use Rattle.btx_check.specs.declared.plain_rules.Plain.{Plain}
use Rattle.btx_check.specs.States.{Abstract}
use Rattle.btx_check.specs.Answers.{Followed, PlainRule, Ruled, Taken, with_result}
use Rattle.btx_check.proofs.RunLemmas.{rest_into, ruled}

-- a row of what functions push
pub row_of : (f g : BuiltIn) (p q : Plain) → f ≡ g → p ≡ q → PlainRule g q → PlainRule f p
row_of f g p q e s r = subst (λ (x : BuiltIn). PlainRule x p) (sym e) (subst (λ (x : Plain). PlainRule g x) (sym s) r)

taken_at : (o : Option Abstract) (b : Abstract) (operands : List Operand) (a : Abstract) → IfSome o (λ x. Taken operands a x) → o ≡ Some b → Taken operands a b
taken_at o b operands a t e = subst (λ (x : Option Abstract). IfSome x (λ y. Taken operands a y)) e t

-- a function goes on with what it pushes in place of operands that were taken
pub goes_on : (f : BuiltIn) (plain : Plain) (operands : List Operand) (a : Abstract) (o : Option Abstract) (old new : List Abstract) → PlainRule f plain
    → (plain.needs_entry ≡ true → a.entry ≡ true) → operands ≡ (row f).operands → IfSome o (λ x. Taken operands a x) → Followed o plain.pushes old new
    → Ruled (callee.BuiltIn f) a old new
goes_on f plain operands a o old new r en is t x =
    let k = taken_at o x.below (row f).operands a (subst (λ (those : List Operand). IfSome o (λ y. Taken those a y)) is t) x.is in
    ruled (callee.BuiltIn f) a old new
    (r.rule a x.below.stack new k.room en (rest_into a x.below (with_result plain.pushes) new k.rest x.added.into) k.fits) x.added.sub
