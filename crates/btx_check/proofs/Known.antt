-- The generic row with all that is known of its operands: their numbers, and that each is as described.
use Rattle.std.proofs.Common.{◌≡◌, ℕ, List, [], ◌∷◌, length, drop, Option, None, Some, get_or, refl, sym, subst}
use Rattle.btx_bst.specs.declared.built_in.BuiltIn.{BuiltIn}
use Rattle.btx_bst.specs.declared.callee.Callee.TheVariants as callee
use Rattle.btx_stack.specs.declared.literal.Literal.{Literal}
use Rattle.btx_stack.specs.declared.literal.Literal.TheVariants.{Integer, Text, Function, Missing}
use Rattle.btx_step.specs.declared.literal.OperandKind.TheVariants as wanted
use Rattle.btx_step.specs.language.Jobs.{Job}
use Rattle.btx_step.specs.language.Stores.{Store}
use Rattle.btx_step.specs.language.Answers.{Answer, with_literals}
use Rattle.btx_step.specs.declared.operands.Operand.{Operand}
use Rattle.btx_step.specs.declared.operands.Operand.TheVariants.{Any, Of}
use Rattle.btx_step.specs.language.Operands.{Value as Operated, Does, applied, absent, wrong, or_else, or_default, on_operands}
use Rattle.btx_step.specs.language.Table.{row}
use Rattle.btx_step.specs.language.Steps.{built_in_run, function_run}
use Rattle.btx_step.specs.laws.Applied.{operand_literal}
use Rattle.btx_check.specs.declared.description.Value.{Value}
use Rattle.btx_check.specs.declared.description.Value.TheVariants as value
use Rattle.btx_check.specs.Descriptions.{Is}
use Rattle.btx_check.specs.States.{Abstract, values_in, at, Fits, Stack, Holds, In, with_stack}
use Rattle.btx_check.specs.Running.{Leads}
use Rattle.btx_check.specs.Answers.{OpFits, TopsFit}
use Rattle.btx_check.proofs.Holding.{fits-at, restack}

-- so it is of the function on all values of its operands that stand where the numbers say, and are as their descriptions say
abbrev pub OnKnown : ℕ → ((Store → Answer) → Type 0) → List Literal → List Value → (operands : List Operand) → List ℕ → Does operands → Type 0
OnKnown left P v ds [] is does = P does
OnKnown left P v ds (operand ∷ more) [] does = Unit {0}
OnKnown left P v ds (operand ∷ more) (i ∷ is) does = (w : Operated operand) → at v i ≡ Some (operand_literal operand w)
    → Is left (get_or ds i value.Any) (operand_literal operand w) → OnKnown left P v ds more is (does w)

pub record Fitted (P : (Store → Answer) → Type 0) (operands : List Operand) (does : Does operands) (v : List Literal) (below : List ℕ)
    (xs : List Literal) : Type
    0 where
  pub go : Store → Answer
  pub applies : applied operands does xs ≡ Some go
  pub so : P go
  pub rest : Stack v below (drop (length operands) xs)

one_fits : (left : ℕ) (P : (Store → Answer) → Type 0) (v : List Literal) (below : List ℕ) (operand : Operand) (more : List Operand)
    (does : Does (operand ∷ more)) (d : Value) (x : Literal) (xs : List Literal) → OpFits operand d → Is left d x
    → ((w : Operated operand) → x ≡ operand_literal operand w → Fitted P more (does w) v below xs) → Fitted P (operand ∷ more) does v below (x ∷ xs)
one_fits left P v below Any more does d x xs o p h = let r = h x refl in record { go = r.go; applies = r.applies; so = r.so; rest = r.rest }
one_fits left P v below (Of wanted.Integer) more does (value.Integer lo hi) (Integer n) xs o p h = let r = h n refl in
    record { go = r.go; applies = r.applies; so = r.so; rest = r.rest }
one_fits left P v below (Of wanted.Text) more does (value.Text m) (Text t) xs o p h = let r = h t refl in
    record { go = r.go; applies = r.applies; so = r.so; rest = r.rest }
one_fits left P v below (Of wanted.Text) more does (value.Text m) Missing xs o p h = absurd (cc)
one_fits left P v below (Of wanted.Function) more does (value.Function f) (Function g) xs o p h = let r = h g refl in
    record { go = r.go; applies = r.applies; so = r.so; rest = r.rest }
one_fits left P v below (Of wanted.TextOrMissing) more does (value.Text m) (Text t) xs o p h = let r = h (Some t) refl in
    record { go = r.go; applies = r.applies; so = r.so; rest = r.rest }
one_fits left P v below (Of wanted.TextOrMissing) more does (value.Text m) Missing xs o p h = let r = h None refl in
    record { go = r.go; applies = r.applies; so = r.so; rest = r.rest }
one_fits left P v below (Of wanted.Integer) more does (value.Integer lo hi) _ xs o p h = absurd p
one_fits left P v below (Of wanted.Text) more does (value.Text m) _ xs o p h = absurd p
one_fits left P v below (Of wanted.Function) more does (value.Function f) _ xs o p h = absurd p
one_fits left P v below (Of wanted.TextOrMissing) more does (value.Text m) _ xs o p h = absurd p
one_fits left P v below (Of _) more does _ x xs o p h = absurd o

pub fitted : (left : ℕ) (P : (Store → Answer) → Type 0) (ds : List Value) (v : List Literal) (below : List ℕ) → Fits left ds v
    → (operands : List Operand) (does : Does operands) (is : List ℕ) (xs : List Literal) → TopsFit ds operands is below → Stack v is xs
    → OnKnown left P v ds operands is does → Fitted P operands does v below xs
fitted left P ds v below f [] does is xs t k h = record { go = does; applies = refl; so = h; rest = subst (λ (b : List ℕ). Stack v b xs) t k }
fitted left P ds v below f (operand ∷ more) does [] xs t k h = absurd t
fitted left P ds v below f (operand ∷ more) does (i ∷ is) [] t k h = absurd k
fitted left P ds v below f (operand ∷ more) does (i ∷ is) (x ∷ xs) t k h =
    let o = fits-at left ds v i x f k.0 in
    one_fits left P v below operand more does (get_or ds i value.Any) x xs t.0 o
    (λ w e. fitted left P ds v below f more (does w) is xs t.1 k.1
    (h w (subst (λ (y : Literal). at v i ≡ Some y) e k.0) (subst (λ (y : Literal). Is left (get_or ds i value.Any) y) e o)))

-- what a row has to do in a store whose names have these values, from literals `v` for the numbers
abbrev pub OnwardAt : Job → ℕ → ℕ → Abstract → List Literal → List ℕ → List Abstract → Store → (Store → Answer) → Type 0
OnwardAt job before left a v below to s go = (under : List Literal) → Holds job before (with_stack below a) (values_in s) under v
    → Leads job left to (with_literals under s) (go (with_literals under s))

pub row_known : (job : Job) (before left : ℕ) (f : BuiltIn) (a : Abstract) (below : List ℕ) (to : List Abstract) (s : Store)
    → built_in_run job f s ≡ on_operands (row f).operands (row f).default ((row f).does job) s.literals s
    → TopsFit a.values (row f).operands a.stack below → (i : In job before a s) → OnKnown before (OnwardAt job before left a i.0 below to s) i.0 a.values
    (row f).operands a.stack ((row f).does job) → Leads job left to s (function_run job (callee.BuiltIn f) s)
unfolding function_run
row_known job before left f a below to s b t i h =
    let r = fitted before (OnwardAt job before left a i.0 below to s) a.values i.0 below i.1.values (row f).operands ((row f).does job) a.stack s.literals t
    i.1.stack h in
    let notes = or_else (absent (row f).operands s.literals) (wrong (row f).operands s.literals) in
    let under = drop (length (row f).operands) s.literals in
    let l = r.so under (restack job before a (values_in s) i.0 below s.literals under r.rest i.1) in
    subst (Leads job left to s) (sym b) (subst (λ (o : Option (Store → Answer)). Leads job left to s (or_default o (row f).default notes s.literals under s))
    (sym r.applies)
    (record { calm = l.calm; deepest = l.deepest; sized = l.sized; goes = l.goes }))
