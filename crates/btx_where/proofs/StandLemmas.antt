-- What the loop over steps keeps, and what a function's execution comes to.
use Rattle.std.proofs.Common.{◌≡◌, ℕ, ◌+◌, List, [], Option, sym, ap, ◌∙◌, refl, arith}
use Rattle.btx_bst.specs.declared.callee.Callee.{Callee}
use Rattle.btx_bst.specs.declared.token.Token.TheVariants.{Run}
use Rattle.btx_code.specs.refinement.Codes.{Coded}
use Rattle.btx_step.specs.language.Jobs.{Job}
use Rattle.btx_machine.specs.declared.ending.Ending.TheVariants as ends
use Rattle.btx_machine.specs.declared.machine.StepOutcome.{StepOutcome}
use Rattle.btx_machine.specs.declared.machine.StepOutcome.TheVariants as step_outcome
use Rattle.btx_machine.specs.declared.machine.Position.{Position}
use Rattle.btx_machine.specs.declared.command.Command.{Command}
use Rattle.btx_machine.specs.language.Commands.{cleared, visit}
use Rattle.btx_machine.specs.language.Meaning.{then_do}
use Rattle.btx_machine.specs.language.MeaningBySteps.{meaning}
use Rattle.btx_machine.specs.language.States.{State, state, Done}
use Rattle.btx_machine.specs.refinement.Commands.{at_entry}
use Rattle.btx_step.specs.refinement.Steps.{with_current}
use Rattle.btx_machine.specs.refinement.Marks.{Open}
use Rattle.btx_machine.specs.refinement.Outputs.{Work}
use Rattle.btx_machine.specs.refinement.Positions.{execute_at, lead_as}
use Rattle.btx_machine.specs.refinement.Written.{Comes, Runs}
use Rattle.btx_machine.proofs.ComesLemmas.{comes_as, comes_then}
use Rattle.btx_machine.proofs.VisitLemmas.{visit_clears}
use Rattle.btx_machine.proofs.WorkLemmas.{store_becomes}
use Rattle.btx_where.specs.Rests.{StandsInFunction}

-- what is still done from `to` with `opens'` open is what is still done from `at` with `opens` open, once that has taken `k` steps
abbrev pub Keeps : Job → Coded → Position → List Open → Position → List Open → ℕ → State → State → Type 0
Keeps job code at opens to opens' k s t = (n : ℕ) → execute_at job code to opens' n t ≡ execute_at job code at opens (n + k) s

pub begins : (job : Job) (code : Coded) (at : Position) (opens : List Open) (work : Work) (k : ℕ) → k ≡ 0 → Comes work work (Keeps job code at opens at opens k)
begins job code at opens work k z =
    store_becomes work work (Keeps job code at opens at opens k) refl (λ out n. let f : n ≡ n + k = omega (arith, z) in
    ap (λ b. execute_at job code at opens b (state work.store out)) f)

pub goes : (job : Job) (code : Coded) (at : Position) (opens : List Open) (mid_at : Position) (mid_opens : List Open) (to : Position) (opens' : List Open)
    (l : StepOutcome) (old mid new : Work) (k k' : ℕ)
    → l ≡ step_outcome.Goes → k' ≡ k + 1 → Comes old mid (Keeps job code at opens mid_at mid_opens k)
    → Comes mid new (λ s t. (left : ℕ) → lead_as job code l to opens' left t ≡ execute_at job code mid_at mid_opens (left + 1) s)
    → Comes old new (Keeps job code at opens to opens' k')
goes job code at opens mid_at mid_opens to opens' l old mid new k k' is e first second =
    comes_then old mid new (Keeps job code at opens mid_at mid_opens k)
    (λ s t. (left : ℕ) → lead_as job code l to opens' left t ≡ execute_at job code mid_at mid_opens (left + 1) s)
    (Keeps job code at opens to opens' k')
    (λ s t u i j n. let f : n + 1 + k ≡ n + k' = omega (arith, e) in ap (λ l. lead_as job code l to opens' n u) (sym is) ∙ j n ∙ i (n + 1)
    ∙ ap (λ b. execute_at job code at opens b s) f) first second

module _ (job : Job) (code : Coded) (at : Position) (opens : List Open) (mid_at : Position) (mid_opens : List Open) (to : Position) (opens' : List Open)
    (l : StepOutcome) (old mid new : Work) (k k' : ℕ) where
  -- the step after which nothing is left
  pub over : l ≡ step_outcome.Over ends.Finished → k' ≡ k + 1 → Comes old mid (Keeps job code at opens mid_at mid_opens k)
      → Comes mid new (λ s t. (left : ℕ) → lead_as job code l to opens' left t ≡ execute_at job code mid_at mid_opens (left + 1) s)
      → Comes old new (Runs (execute_at job code at opens) k' ends.Finished)
  over is e first second =
      comes_then old mid new (Keeps job code at opens mid_at mid_opens k)
      (λ s t. (left : ℕ) → lead_as job code l to opens' left t ≡ execute_at job code mid_at mid_opens (left + 1) s)
      (Runs (execute_at job code at opens) k' ends.Finished)
      (λ s t u i j n h. let f : n + 1 + k ≡ n + k' = omega (arith, e) in ap (λ l. lead_as job code l to opens' n u) (sym is) ∙ j n ∙ i (n + 1)
      ∙ ap (λ b. execute_at job code at opens b s) f) first second

-- a command's function, executed from its beginning with nothing open
module _ (job : Job) (command : Command) (f : Callee) (entry : Option ℕ) (old mid : Work) (same : mid.outputs ≡ old.outputs)
    (is : mid.store ≡ with_current entry old.store)
    (code : Coded) (first : Position) (none : List Open) (means : (n : ℕ) (s : State) → execute_at job code first [] n s ≡ meaning job (Run f) 0 0 n s)
    (z : none ≡ []) where
  begun : (n : ℕ) (s : State) → execute_at job code first none n s ≡ meaning job (Run f) 0 0 n s
  begun n s = ap (λ opens. execute_at job code first opens n s) z ∙ means n s

  -- it is stopped: what is open goes on, and then the stack is emptied
  pub visit_stands : (new : Work) (at : Position) (opens : List Open) (k : ℕ)
      → Comes mid new (λ s t. (n : ℕ) → execute_at job code at opens n t ≡ execute_at job code first none (n + k) s)
      → Comes old new (StandsInFunction job command code at opens (visit job command f entry) k)
  unfolding visit
  visit_stands new at opens k stands =
      comes_then old mid new (λ s t. t ≡ at_entry entry s) (λ s t. (n : ℕ) → execute_at job code at opens n t ≡ execute_at job code first none (n + k) s)
      (StandsInFunction job command code at opens (visit job command f entry) k)
      (λ s t u e r n. sym (ap (λ o. then_do o (λ n u. Done (cleared job command u) n))
      (r n ∙ begun (n + k) t ∙ ap (λ t. meaning job (Run f) 0 0 (n + k) t) e)))
      (store_becomes old mid (λ s t. t ≡ at_entry entry s) same (λ out. rw is refl)) stands

  -- it is done, and the stack is emptied
  pub visit_finishes : (new new' : Work) (k : ℕ) → Comes mid new (Runs (execute_at job code first none) k ends.Finished)
      → Comes new new' (λ s t. t ≡ cleared job command s)
      → Comes old new' (Runs (visit job command f entry) k ends.Finished)
  visit_finishes new new' k runs clears =
      visit_clears job command f entry old mid same is new new' k
      (comes_as mid new (Runs (execute_at job code first none) k ends.Finished) (Runs (meaning job (Run f) 0 0) k ends.Finished)
      (λ s t r n h. r n h ∙ begun (n + k) s) runs) clears
