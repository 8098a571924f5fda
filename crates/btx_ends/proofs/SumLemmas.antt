-- After `+` and `-` an integer of 32 bits is on top of the stack, whatever was there.
use Rattle.std.proofs.Common.{◌≡◌, ℕ, ◌≤◌, ◌^◌, ℤ, pos, negsuc, Bool, true, false, cond, List, [], ◌∷◌, refl, arith, sym, ap, subst}
use Rattle.std.specs.Prelude.{slice_get, ◌+ℤ◌, ◌-ℤ◌}
use Rattle.std.proofs.lemmas.Bool.{ltb-true}
use Rattle.btx_bst.specs.declared.built_in.BuiltIn.TheVariants as built_in
use Rattle.btx_bst.specs.declared.callee.Callee.TheVariants as callee
use Rattle.btx_bst.specs.declared.token.Token.TheVariants.{Run}
use Rattle.btx_stack.specs.declared.literal.Literal.{Literal}
use Rattle.btx_stack.specs.declared.literal.Literal.TheVariants as literal
use Rattle.btx_step.specs.declared.said.Note.{Note}
use Rattle.btx_step.specs.declared.said.Note.TheVariants as note
use Rattle.btx_step.specs.declared.said.StepOutput.TheVariants as step_output
use Rattle.btx_step.specs.declared.stand_in.StandIn.TheVariants as stand_in
use Rattle.btx_step.specs.language.Answers.{with_literals, pushed, complained}
use Rattle.btx_step.specs.language.Arithmetic.{fits, result_of}
use Rattle.btx_step.specs.language.Jobs.{Job}
use Rattle.btx_step.specs.language.Operands.{on_operands}
use Rattle.btx_step.specs.language.Steps.{step_of, function_run, built_in_run}
use Rattle.btx_step.specs.language.Stores.{Store}
use Rattle.btx_step.specs.language.Table.{row}
use Rattle.btx_ends.specs.declared.known.Known.TheVariants as known
use Rattle.btx_ends.specs.Counters.{above_zero}
use Rattle.btx_ends.specs.Certificates.{Claims}
use Rattle.btx_ends.proofs.DoneLemmas.{AnswerSo, pushes_so}
use Rattle.btx_ends.proofs.FineLemmas.{KnownAt}

-- an integer that is at most 2^31 is on top
abbrev pub SmallOn : List Literal → Type 0
SmallOn [] = ⊥
SmallOn (literal.Integer n ∷ ys) = above_zero n ≤ 2 ^ 31
SmallOn (y ∷ ys) = ⊥

-- .. and the variables are as they were
abbrev pub Summed : Store → Store → Type 0
Summed s r = ((r.integers ≡ s.integers) × (r.strings ≡ s.strings)) × SmallOn r.literals

pub small_at : (claims : Claims) (xs : List Literal) → SmallOn xs → KnownAt claims (known.AtMost (2 ^ 31)) (slice_get xs 0)
small_at claims [] h = absurd h
small_at claims (literal.Integer n ∷ ys) h = (n, (refl, h))
small_at claims (y ∷ ys) h = absurd h

fits_most : (n : ℤ) → fits n ≡ true → above_zero n ≤ 2 ^ 31
fits_most (pos n) e = let l = ltb-true n (2 ^ 31) e in omega (arith, l)
fits_most (negsuc n) e = omega arith

zero_so : (notes : List Note) (ys : List Literal) (s : Store) → AnswerSo (Summed s) (complained notes stand_in.Zero (with_literals ys s))
zero_so notes ys s = pushes_so (Summed s) (step_output.Noted notes) (literal.Integer (pos 0)) (with_literals ys s) ((refl, refl), omega arith)

result_so : (n : ℤ) (ys : List Literal) (s : Store) → AnswerSo (Summed s) (result_of n (with_literals ys s))
result_so n ys s = by (fits n) refl
  where
    by : (b : Bool) → fits n ≡ b
        → AnswerSo (Summed s)
        (cond b (pushed (literal.Integer n) (with_literals ys s)) (complained (note.Overflow ∷ []) stand_in.Zero (with_literals ys s)))
    by true e = pushes_so (Summed s) step_output.Nothing (literal.Integer n) (with_literals ys s) ((refl, refl), fits_most n e)
    by false e = zero_so (note.Overflow ∷ []) ys s

plus_on : (job : Job) (xs : List Literal) (s : Store)
    → AnswerSo (Summed s) (on_operands (row built_in.Plus).operands (row built_in.Plus).default ((row built_in.Plus).does job) xs s)
plus_on job [] s = zero_so (note.EmptyStack ∷ note.EmptyStack ∷ []) [] s
plus_on job (literal.Integer b ∷ []) s = zero_so (note.EmptyStack ∷ []) [] s
plus_on job (literal.Text z ∷ []) s = zero_so (note.EmptyStack ∷ []) [] s
plus_on job (literal.Function f ∷ []) s = zero_so (note.EmptyStack ∷ []) [] s
plus_on job (literal.Missing ∷ []) s = zero_so (note.EmptyStack ∷ []) [] s
plus_on job (literal.Integer b ∷ literal.Integer a ∷ ys) s = result_so (a +ℤ b) ys s
plus_on job (literal.Integer b ∷ literal.Text z ∷ ys) s = zero_so _ ys s
plus_on job (literal.Integer b ∷ literal.Function f ∷ ys) s = zero_so _ ys s
plus_on job (literal.Integer b ∷ literal.Missing ∷ ys) s = zero_so _ ys s
plus_on job (literal.Text z ∷ y ∷ ys) s = zero_so _ ys s
plus_on job (literal.Function f ∷ y ∷ ys) s = zero_so _ ys s
plus_on job (literal.Missing ∷ y ∷ ys) s = zero_so _ ys s

minus_on : (job : Job) (xs : List Literal) (s : Store)
    → AnswerSo (Summed s) (on_operands (row built_in.Minus).operands (row built_in.Minus).default ((row built_in.Minus).does job) xs s)
minus_on job [] s = zero_so (note.EmptyStack ∷ note.EmptyStack ∷ []) [] s
minus_on job (literal.Integer b ∷ []) s = zero_so (note.EmptyStack ∷ []) [] s
minus_on job (literal.Text z ∷ []) s = zero_so (note.EmptyStack ∷ []) [] s
minus_on job (literal.Function f ∷ []) s = zero_so (note.EmptyStack ∷ []) [] s
minus_on job (literal.Missing ∷ []) s = zero_so (note.EmptyStack ∷ []) [] s
minus_on job (literal.Integer b ∷ literal.Integer a ∷ ys) s = result_so (a -ℤ b) ys s
minus_on job (literal.Integer b ∷ literal.Text z ∷ ys) s = zero_so _ ys s
minus_on job (literal.Integer b ∷ literal.Function f ∷ ys) s = zero_so _ ys s
minus_on job (literal.Integer b ∷ literal.Missing ∷ ys) s = zero_so _ ys s
minus_on job (literal.Text z ∷ y ∷ ys) s = zero_so _ ys s
minus_on job (literal.Function f ∷ y ∷ ys) s = zero_so _ ys s
minus_on job (literal.Missing ∷ y ∷ ys) s = zero_so _ ys s

pub plus_so : (job : Job) (s : Store) → AnswerSo (Summed s) (step_of job (Run (callee.BuiltIn built_in.Plus)) s)
unfolding step_of function_run built_in_run
plus_so job s = plus_on job s.literals s

pub minus_so : (job : Job) (s : Store) → AnswerSo (Summed s) (step_of job (Run (callee.BuiltIn built_in.Minus)) s)
unfolding step_of function_run built_in_run
minus_so job s = minus_on job s.literals s
