-- What a budget changes of a whole run.
use Rattle.std.specs.Prelude.{ℕ, ◌≤◌, List}
use Rattle.btx_aux.specs.language.Files.{Files}
use Rattle.btx_out.specs.laws.Lengths.{IsLineLength}
use Rattle.btx_machine.specs.language.DirectDepth.{StaysWithin}
use Rattle.btx_machine.specs.laws.ProductLaws.{Foretells}
use Rattle.btx_machine.specs.laws.StepsNeeded.{NeededSteps, StoppedSteps}
use Rattle.btx_core.specs.declared.options.Options.{Options}
use Rattle.btx_run.specs.language.DirectStyles.{WhereDirect}
use Rattle.btx_core.specs.refinement.Files.Readings.{reading_of}
use Rattle.btx_core.specs.refinement.ComputedProduct.{product_with}

-- the list of references of a smaller budget begins that of a larger one, and so does the log, its last line aside; where the run isn't
-- stopped, both and the report stay the same
abbrev pub BudgetLaw : Type 0
BudgetLaw = (files : Files) (name : List ℕ) (options : Options) → IsLineLength options.line → (few many : ℕ) → few ≤ many →
    Foretells (product_with files name options few) (product_with files name options many)

-- a run that isn't stopped needs just the steps that it took: with fewer it is stopped, and with as many or more it writes and answers
-- the same
abbrev pub NeedsLaw : Type 0
NeedsLaw = (files : Files) (name : List ℕ) (options : Options) → NeededSteps (product_with files name options)

-- a stopped run took all its steps
abbrev pub StoppedLaw : Type 0
StoppedLaw = (files : Files) (name : List ℕ) (options : Options) → StoppedSteps (product_with files name options)

-- with a direct style no more bodies are open at once than the style has functions, and where these are at most 4,096 the run meets no
-- limit of calls
abbrev pub DirectLaw : Type 0
DirectLaw = (files : Files) (name : List ℕ) (options : Options) (budget : ℕ) →
    WhereDirect (reading_of files name).gives (λ functions. StaysWithin functions (product_with files name options budget).report)
