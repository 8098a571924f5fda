-- How many steps a run needs.
use Rattle.std.specs.Prelude.{◌≡◌, ◌≢◌, ℕ, ◌<◌, ◌≤◌}
use Rattle.btx_step.specs.language.Jobs.{Job}
use Rattle.btx_machine.specs.declared.report.End.TheVariants.{Stopped}
use Rattle.btx_machine.specs.declared.report.LogCounts.{LogCounts}
use Rattle.btx_machine.specs.language.Product.{Product, style_product}

-- a run was stopped, and took all its steps
pub record StopsAt (product : Product) (budget : ℕ) : Type 0 where
  pub stopped : product.report.end ≡ Stopped
  pub all_taken : product.report.steps ≡ budget

-- A run needs just the steps of its report: with fewer it is stopped, and with as many or more it writes and answers just this.
pub record NeedsSteps (run : ℕ → Product) (whole : Product) : Type 0 where
  pub fewer : (budget : ℕ) → budget < whole.report.steps → StopsAt (run budget) budget
  pub enough : (budget : ℕ) → whole.report.steps ≤ budget → run budget ≡ whole

-- a run that isn't stopped needs just the steps that it took
abbrev pub NeededSteps : (ℕ → Product) → Type 0
NeededSteps run = (budget : ℕ) → (run budget).report.end ≢ Stopped → NeedsSteps run (run budget)

-- a stopped run took all its steps
abbrev pub StoppedSteps : (ℕ → Product) → Type 0
StoppedSteps run = (budget : ℕ) → (run budget).report.end ≡ Stopped → (run budget).report.steps ≡ budget

-- every run of a style that isn't stopped needs just the steps that it took
abbrev pub StepsNeededLaw : Type 0
StepsNeededLaw = (job : Job) (counts : LogCounts) (line_length : ℕ) → NeededSteps (style_product job counts line_length)

-- a stopped run of a style took all steps of its budget
abbrev pub StoppedStepsLaw : Type 0
StoppedStepsLaw = (job : Job) (counts : LogCounts) (line_length : ℕ) → StoppedSteps (style_product job counts line_length)
