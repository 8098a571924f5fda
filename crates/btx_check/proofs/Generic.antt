-- Any row of the table, on operands that certainly fit: and with it, in a line or two each, the rows whose results are any string or any integer.
use Rattle.std.proofs.Common.{◌≡◌, ℕ, ◌<◌, List, [], ◌∷◌, ◌++◌, length, drop, Option, Bool, true, false, cond, refl, sym, subst, arith}
use Rattle.std.specs.List.{list_all}
use Rattle.btx_text.specs.language.Class.{is_white}
use Rattle.btx_bst.specs.declared.built_in.BuiltIn.{BuiltIn}
use Rattle.btx_bst.specs.declared.callee.Callee.TheVariants as callee
use Rattle.btx_stack.specs.declared.literal.Literal.{Literal}
use Rattle.btx_stack.specs.declared.literal.Literal.TheVariants.{Text}
use Rattle.btx_step.specs.declared.said.StepOutput.{StepOutput}
use Rattle.btx_step.specs.language.Jobs.{Job}
use Rattle.btx_step.specs.language.Stores.{Store}
use Rattle.btx_step.specs.language.Answers.{Answer, with_literals, pushes, pushes_text, says}
use Rattle.btx_step.specs.declared.operands.Operand.{Operand}
use Rattle.btx_step.specs.language.Operands.{Value as Operated, Does, absent, wrong, or_else, or_default, on_operands}
use Rattle.btx_step.specs.language.Table.{row}
use Rattle.btx_step.specs.language.Steps.{built_in_run, function_run}
use Rattle.btx_check.specs.declared.description.Value.{Value}
use Rattle.btx_check.specs.declared.description.Value.TheVariants as value
use Rattle.btx_check.specs.Calm.{Calm}
use Rattle.btx_check.specs.Descriptions.{White, Full, allows, Is, any_text}
use Rattle.btx_check.specs.States.{Abstract, values_in, In, pushing_new, with_stack}
use Rattle.btx_check.specs.Inclusion.{Into}
use Rattle.btx_check.specs.Running.{Leads}
use Rattle.btx_check.specs.Answers.{TopsFit}
use Rattle.btx_check.proofs.Holding.{stack-length, restack, fresh}
use Rattle.btx_check.proofs.Known.{OnKnown, fitted}
use Rattle.btx_check.proofs.RowLemmas.{pushes_leads, pushes_text_leads}

-- so it is of the function on all values of its operands
abbrev pub OnAll : ((Store → Answer) → Type 0) → (operands : List Operand) → Does operands → Type 0
OnAll P [] does = P does
OnAll P (operand ∷ more) does = (v : Operated operand) → OnAll P more (does v)

-- what is so on all values is so on those that are known
all_known : (left : ℕ) (P : (Store → Answer) → Type 0) (v : List Literal) (ds : List Value) (operands : List Operand) (is : List ℕ) (does : Does operands)
    → OnAll P operands does → OnKnown left P v ds operands is does
all_known left P v ds [] is does h = h
all_known left P v ds (operand ∷ more) [] does h = tt
all_known left P v ds (operand ∷ more) (i ∷ is) does h = λ w stands described. all_known left P v ds more is (does w) (h w)

-- what a row has to do from the states below its operands
abbrev pub Onward : Job → ℕ → Abstract → List ℕ → List Abstract → (Store → Answer) → Type 0
Onward job left a below to go = (s : Store) → In job left (with_stack below a) s → Leads job left to s (go s)

-- THE GENERIC ROW: where the numbers on top fit, the function is done on the literals below
pub row_leads : (job : Job) (left : ℕ) (f : BuiltIn) (a : Abstract) (below : List ℕ) (to : List Abstract) (s : Store)
    → built_in_run job f s ≡ on_operands (row f).operands (row f).default ((row f).does job) s.literals s
    → TopsFit a.values (row f).operands a.stack below → OnAll (Onward job left a below to) (row f).operands ((row f).does job) → In job left a s
    → Leads job left to s (function_run job (callee.BuiltIn f) s)
unfolding function_run
row_leads job left f a below to s b t h i =
    let r = fitted left (Onward job left a below to) a.values i.0 below i.1.values (row f).operands ((row f).does job) a.stack s.literals t i.1.stack
    (all_known left (Onward job left a below to) i.0 a.values (row f).operands a.stack ((row f).does job) h) in
    let notes = or_else (absent (row f).operands s.literals) (wrong (row f).operands s.literals) in
    let under = drop (length (row f).operands) s.literals in
    let l = r.so (with_literals under s) (i.0, restack job left a (values_in s) i.0 below s.literals under r.rest i.1) in
    subst (Leads job left to s) (sym b) (subst (λ (o : Option (Store → Answer)). Leads job left to s (or_default o (row f).default notes s.literals under s))
    (sym r.applies)
    (record { calm = l.calm; deepest = l.deepest; sized = l.sized; goes = l.goes }))

-- ---- results of which nothing is known

pub any_text_is : (left : ℕ) (t : List ℕ) → Is left (value.Text any_text) (Text t)
any_text_is left [] = refl
any_text_is left (x ∷ t) = go (list_all is_white (x ∷ t))
  where
    go : (b : Bool) → allows any_text (cond b White Full) ≡ true
    go true = refl
    go false = refl

module _ (job : Job) (left : ℕ) (a : Abstract) (below : List ℕ) (to : List Abstract) (l : length below < 1000) where
  room_below : (s : Store) → In job left (with_stack below a) s → length s.literals < 1000
  room_below s h = let n = stack-length h.0 below s.literals h.1.stack in omega (arith, l, n)

  pub text_onward : (words : StepOutput) (text : List ℕ) → Calm words → Into (pushing_new (value.Text any_text) (with_stack below a)) to
      → Onward job left a below to (pushes_text words text)
  text_onward words text calm go s h =
      pushes_text_leads job left to s s words text calm refl (λ z. z) (room_below s h)
      (go.into job left (with_literals (Text text ∷ s.literals) s) (
        h.0 ++ Text text ∷ [],
        fresh job left (with_stack below a) (values_in s) h.0 s.literals (value.Text any_text) (Text text) (any_text_is left text)
            h.1,
      ))

  pub push_onward : (words : StepOutput) (d : Value) (y : Literal) → Calm words → Is left d y → Into (pushing_new d (with_stack below a)) to
      → Onward job left a below to (pushes words y)
  push_onward words d y calm o go s h =
      pushes_leads job left to s s words y calm refl (λ z. z) (room_below s h)
      (go.into job left (with_literals (y ∷ s.literals) s) (h.0 ++ y ∷ [], fresh job left (with_stack below a) (values_in s) h.0 s.literals d y o h.1))

  pub says_onward : (words : StepOutput) → Calm words → Into (with_stack below a) to → Onward job left a below to (says words)
  says_onward words calm go s h = record { calm = calm; deepest = refl; sized = λ z. z; goes = go.into job left s h }
