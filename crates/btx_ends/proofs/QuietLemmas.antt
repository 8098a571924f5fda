-- What follows a step. Of most tokens nothing does, or the end of the run at a limit; an `if$` executes one of its two functions, and `call.type$` the one of the
-- entry's type.
use Rattle.std.proofs.Common.{◌≡◌, ℕ, ℤ, Bool, true, false, cond, nat_lt, List, [], ◌∷◌, length, Option, Some, None, refl, sym, subst, ◌⊎◌, inl, inr}
use Rattle.std.specs.Prelude.{slice_index_or}
use Rattle.btx_bst.specs.declared.built_in.BuiltIn.{BuiltIn}
use Rattle.btx_bst.specs.declared.callee.Callee.{Callee}
use Rattle.btx_stack.specs.declared.literal.Literal.{Literal}
use Rattle.btx_step.specs.declared.next.Next.{Next}
use Rattle.btx_step.specs.declared.said.StepOutput.{StepOutput}
use Rattle.btx_step.specs.declared.stand_in.StandIn.{StandIn}
use Rattle.btx_step.specs.declared.operands.Operand.{Operand}
use Rattle.btx_step.specs.declared.operands.Default.TheVariants.{Push, Back}
use Rattle.btx_step.specs.language.Answers.{Answer, answer, quiet, says, with_literals, pushes, pushes_text}
use Rattle.btx_step.specs.language.Jobs.{Job}
use Rattle.btx_step.specs.language.Operands.{Does, on_operands}
use Rattle.btx_step.specs.language.Stores.{Store}
use Rattle.btx_step.specs.language.Table.{row, runs_missing}
use Rattle.btx_step.specs.refinement.Table.{misses_entry}
use Rattle.btx_text.specs.language.Limits.{greatest_string}
use Rattle.btx_bst.specs.declared.built_in.BuiltIn.TheVariants as built_in
use Rattle.btx_bst.specs.declared.callee.Callee.TheVariants as callee
use Rattle.btx_bst.specs.declared.token.Token.{Token}
use Rattle.btx_bst.specs.declared.token.Token.TheVariants as token
use Rattle.btx_stack.specs.declared.literal.Literal.TheVariants as literal
use Rattle.btx_text.specs.declared.limits.Limit.TheVariants as limit
use Rattle.btx_step.specs.declared.next.Next.TheVariants as next
use Rattle.btx_step.specs.declared.said.StepOutput.TheVariants as step_output
use Rattle.btx_step.proofs.RuleLemmas.{Each, Taken, by_rule, pushed_by}
use Rattle.btx_step.proofs.PlainLemmas as plain
use Rattle.btx_step.proofs.PlainLemmas.{OfPushes}
use Rattle.btx_step.specs.language.Control as control
use Rattle.btx_step.specs.refinement.Control as kept_control
use Rattle.btx_step.specs.language.Entries as entries
use Rattle.btx_step.specs.language.Entries.{entry_of}
use Rattle.btx_step.specs.refinement.Entries.{calls_type, runner_of, runs_type}
use Rattle.btx_bib.specs.language.Library.{entry_type}
use Rattle.btx_step.specs.refinement.Stacks as stacks
use Rattle.btx_step.specs.language.Variables as variables
use Rattle.btx_step.specs.language.Steps.{step_of, function_run, built_in_run}

-- nothing follows, or the end of the run
abbrev pub IsQuiet : Next → Type 0
IsQuiet next.Nothing = Unit {0}
IsQuiet (next.End limit) = Unit {0}
IsQuiet _ = ⊥

abbrev Quiet : Store → Answer → Type 0
Quiet s a = IsQuiet a.next

abbrev Anything : List Literal → Type 0
Anything xs = Unit {0}

abbrev AnyLiteral : Literal → Type 0
AnyLiteral x = Unit {0}

pick : (b : Bool) (x y : Answer) → IsQuiet x.next → IsQuiet y.next → IsQuiet (cond b x y).next
pick true x y h k = h
pick false x y h k = k

pushes_quiet : (words : StepOutput) (v : Literal) (s : Store) → IsQuiet (pushes words v s).next
pushes_quiet words v s = pick (nat_lt (length s.literals) 1000) (says words (with_literals (v ∷ s.literals) s)) (answer (next.End limit.Literals) words s) tt tt

text_quiet : (words : StepOutput) (text : List ℕ) (s : Store) → IsQuiet (pushes_text words text s).next
text_quiet words text s = pick (nat_lt greatest_string (length text)) (quiet (next.End limit.String) s) (pushes words (literal.Text text) s) tt
    (pushes_quiet words (literal.Text text) s)

pushed_quiet : OfPushes Anything Quiet
pushed_quiet = record {
  words = λ words s h. tt;
  integer = λ words n s h. pushes_quiet words (literal.Integer n) s;
  string = λ words text s h. pushes_quiet words (literal.Text text) s;
  text = λ words text s h. text_quiet words text s;
  missing = λ s h. pushes_quiet step_output.Nothing literal.Missing s;
}

-- ---- operands

abbrev EachQuiet : (operands : List Operand) → Does operands → Type 0
EachQuiet operands does = Each AnyLiteral Anything Quiet operands does

any_taken : (operands : List Operand) (xs : List Literal) → Taken AnyLiteral Anything Quiet operands xs
any_taken [] xs = tt
any_taken (operand ∷ more) [] = tt
any_taken (operand ∷ more) (x ∷ xs) = (tt, any_taken more xs)

ruled_quiet : (operands : List Operand) (instead : StandIn) (does : Does operands) → EachQuiet operands does → (xs : List Literal) (s : Store)
    → IsQuiet (on_operands operands (Push instead) does xs s).next
ruled_quiet operands instead does h xs s =
    by_rule AnyLiteral Anything Quiet tt (plain.complains Anything Quiet pushed_quiet) operands instead does h xs s (any_taken operands xs)

-- ---- functions

-- a built-in function after which nothing is executed
abbrev pub IsSingle : BuiltIn → Type 0
IsSingle built_in.CallType = ⊥
IsSingle built_in.If = ⊥
IsSingle built_in.While = ⊥
IsSingle _ = Unit {0}

stored_integer_quiet : (store : ℤ → Store → Store) (v : Literal) (s : Store) → IsQuiet (variables.stores_integer store v s).next
stored_integer_quiet store (literal.Integer n) s = tt
stored_integer_quiet store v s = tt

stored_string_quiet : (most : ℕ) (store : List ℕ → Store → Store) (v : Literal) (s : Store) → IsQuiet (variables.stores_string most store v s).next
stored_string_quiet most store (literal.Text text) s = tt
stored_string_quiet most store v s = tt

in_entry_quiet : (go : ℕ → Store → Answer) (current : Option ℕ) (s : Store) → ((entry : ℕ) → IsQuiet (go entry s).next)
    → IsQuiet (variables.in_entry go current s).next
in_entry_quiet go None s each = tt
in_entry_quiet go (Some entry) s each = each entry

assigned_quiet : (job : Job) (f : Callee) (v : Literal) (s : Store) → IsQuiet (variables.assigns job f v s).next
assigned_quiet job (callee.GlobalInteger i) v s = stored_integer_quiet (variables.with_global_integer i) v s
assigned_quiet job (callee.GlobalString i) v s = stored_string_quiet job.global_max (variables.with_global_string i) v s
assigned_quiet job (callee.EntryInteger i) v s =
    in_entry_quiet (λ entry. variables.stores_integer (variables.with_entry_integer entry i) v) s.current s
    (λ entry. stored_integer_quiet (variables.with_entry_integer entry i) v s)
assigned_quiet job (callee.EntryString i) v s =
    in_entry_quiet (λ entry. variables.stores_string job.entry_max (variables.with_entry_string entry i) v) s.current s
    (λ entry. stored_string_quiet job.entry_max (variables.with_entry_string entry i) v s)
assigned_quiet job f v s = tt

without_entry : (xs : List Literal) (s : Store) → IsQuiet (misses_entry xs s).next
without_entry [] s = tt
without_entry (x ∷ xs) s = tt

runs_missing_quiet : (current : Option ℕ) (s : Store) → IsQuiet (runs_missing current s).next
runs_missing_quiet None s = without_entry s.literals s
runs_missing_quiet (Some entry) s =
    ruled_quiet (row built_in.Missing).operands _ entries.finds_missing (λ field u s h. plain.absence Anything Quiet pushed_quiet field s h) s.literals s

swaps_quiet : (xs : List Literal) (s : Store) → IsQuiet (on_operands (row built_in.Swap).operands Back stacks.swaps xs s).next
swaps_quiet [] s = tt
swaps_quiet (x ∷ []) s = tt
swaps_quiet (x ∷ y ∷ xs) s = tt

row_quiet : (job : Job) (f : BuiltIn) → IsSingle f → EachQuiet (row f).operands ((row f).does job)
row_quiet job built_in.Assign c = λ f u x v s h. assigned_quiet job f x s
row_quiet job built_in.CallType c = absurd c
row_quiet job built_in.Duplicate c = λ x u s h. pushes_quiet step_output.Nothing x (with_literals (x ∷ s.literals) s)
row_quiet job built_in.If c = absurd c
row_quiet job built_in.Stack c = λ s h. tt
row_quiet job built_in.Swap c = λ x u y v s h. tt
row_quiet job built_in.While c = absurd c
row_quiet job f c = plain.plain_row Anything Quiet pushed_quiet AnyLiteral job f tt

built_in_quiet : (job : Job) (f : BuiltIn) (s : Store) → IsSingle f → IsQuiet (built_in_run job f s).next
unfolding built_in_run
built_in_quiet job built_in.Missing s c = runs_missing_quiet s.current s
built_in_quiet job built_in.Swap s c = swaps_quiet s.literals s
built_in_quiet job f s c = ruled_quiet (row f).operands (pushed_by (row f).default) ((row f).does job) (row_quiet job f c) s.literals s

-- what a token executes by itself is one function after which nothing is executed
abbrev pub IsSingleCallee : Callee → Type 0
IsSingleCallee (callee.BuiltIn f) = IsSingle f
IsSingleCallee (callee.User i) = ⊥
IsSingleCallee _ = Unit {0}

function_quiet : (job : Job) (f : Callee) (s : Store) → IsSingleCallee f → IsQuiet (function_run job f s).next
unfolding function_run
function_quiet job (callee.BuiltIn f) s b = built_in_quiet job f s b
function_quiet job (callee.User i) s b = absurd b
function_quiet job (callee.Field i) s b = plain.field Anything Quiet pushed_quiet job i s.current s tt
function_quiet job (callee.EntryInteger i) s b = plain.entry_integer Anything Quiet pushed_quiet i s.current s tt
function_quiet job (callee.EntryString i) s b = plain.entry_string Anything Quiet pushed_quiet i s.current s tt
function_quiet job (callee.GlobalInteger i) s b = pushes_quiet step_output.Nothing _ s
function_quiet job (callee.GlobalString i) s b = pushes_quiet step_output.Nothing _ s

abbrev pub IsSingleToken : Token → Type 0
IsSingleToken (token.Run f) = IsSingleCallee f
IsSingleToken _ = Unit {0}

pub step_quiet : (job : Job) (x : Token) (s : Store) → IsSingleToken x → IsQuiet (step_of job x s).next
unfolding step_of
step_quiet job (token.Text i) s a = text_quiet step_output.Nothing (slice_index_or job.style.texts i []) s
step_quiet job (token.Integer n) s a = pushes_quiet step_output.Nothing (literal.Integer n) s
step_quiet job (token.Quote f) s a = pushes_quiet step_output.Nothing (literal.Function f) s
step_quiet job (token.Run f) s a = function_quiet job f s a

-- ---- choices

-- nothing follows, the end of the run, or one of two functions
abbrev pub OneOf : Callee → Callee → Next → Type 0
OneOf f g (next.Run h) = (h ≡ f) ⊎ (h ≡ g)
OneOf f g after = IsQuiet after

chosen_of : (b : Bool) (f g : Callee) → OneOf f g (next.Run (kept_control.chosen b f g))
chosen_of true f g = inl refl
chosen_of false f g = inr refl

choice_of : (f g : Callee) (ys : List Literal) (s : Store)
    → OneOf f g (on_operands (row built_in.If).operands (row built_in.If).default kept_control.chooses (literal.Function g ∷ literal.Function f ∷ ys) s).next
choice_of f g [] s = tt
choice_of f g (literal.Integer n ∷ ys) s = chosen_of (control.is_positive n) f g
choice_of f g (y ∷ ys) s = tt

-- an `if$` over two functions executes one of them
pub choice_next : (job : Job) (f g : Callee) (ys : List Literal) (s : Store) → s.literals ≡ literal.Function g ∷ literal.Function f ∷ ys
    → OneOf f g (step_of job (token.Run (callee.BuiltIn built_in.If)) s).next
unfolding step_of function_run built_in_run
choice_next job f g ys s e =
    subst (λ xs. OneOf f g (on_operands (row built_in.If).operands (row built_in.If).default kept_control.chooses xs s).next) (sym e) (choice_of f g ys s)

-- ---- types

-- nothing follows, the end of the run, or the function of an entry's type
abbrev pub OfType : Job → Next → Type 0
OfType job (next.Run h) = (entry : ℕ) × ((number : ℕ) × ((h ≡ callee.User number) × (runner_of job (entry_type (entry_of job entry)) ≡ Some number)))
OfType job after = IsQuiet after

runs_of : (job : Job) (entry : ℕ) (runner : Option ℕ) (s : Store) → runner_of job (entry_type (entry_of job entry)) ≡ runner → OfType job (runs_type runner s).next
runs_of job entry None s e = tt
runs_of job entry (Some number) s e = (entry, (number, (refl, e)))

calls_of : (job : Job) (current : Option ℕ) (s : Store) → OfType job (calls_type job current s).next
calls_of job None s = tt
calls_of job (Some entry) s = runs_of job entry (runner_of job (entry_type (entry_of job entry))) s refl

pub type_next : (job : Job) (s : Store) → OfType job (step_of job (token.Run (callee.BuiltIn built_in.CallType)) s).next
unfolding step_of function_run built_in_run
type_next job s = calls_of job s.current s
