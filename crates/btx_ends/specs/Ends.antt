-- What is promised of a style that ends: over the meaning of styles that the program itself is proved to meet.
use Rattle.std.specs.Prelude.{◌≡◌, ◌≢◌, ℕ, ◌+◌, ◌*◌, ◌≤◌, List, [], length, Some, Bool, true, nat_eq}
use Rattle.std.specs.List.{list_any}
use Rattle.btx_bst.specs.language.Style.{Style}
use Rattle.btx_bib.specs.language.Library.{entry_type}
use Rattle.btx_step.specs.language.Entries.{entry_of}
use Rattle.btx_step.specs.language.Jobs.{Job}
use Rattle.btx_step.specs.language.Starts.{first_store}
use Rattle.btx_machine.specs.declared.report.End.TheVariants.{Stopped as StoppedEnd}
use Rattle.btx_machine.specs.declared.report.LogCounts.{LogCounts}
use Rattle.btx_machine.specs.language.States.{State, state, Outcome, Done, Stopped, Limit}
use Rattle.btx_machine.specs.language.Items.{do_items}
use Rattle.btx_machine.specs.language.Product.{style_product}

-- a run with a budget isn't stopped, and takes at most `bound` steps: it is done, or a limit ended it
abbrev pub EndsWithin : ℕ → ℕ → Outcome → Type 0
EndsWithin bound budget (Done s left) = budget ≤ left + bound
EndsWithin bound budget (Stopped s) = ⊥
EndsWithin bound budget (Limit kind s left) = budget ≤ left + bound

-- a function, by its number, is one of these
abbrev pub is_among : List ℕ → ℕ → Bool
is_among numbers number = list_any (λ f. nat_eq f number) numbers

-- the jobs for which the promise is made: those of the style in which each entry's type is none that the style knows, or one of the `allowed` functions, and a
-- global string variable keeps at most `kept` bytes
pub record IsOf (style : Style) (allowed : List ℕ) (kept : ℕ) (job : Job) : Type 0 where
  pub same : job.style ≡ style
  pub keeps : job.global_max ≤ kept
  pub types : (entry number : ℕ) → entry_type (entry_of job entry) ≡ Some number → is_among allowed number ≡ true

-- where a run of a style begins
abbrev pub first_state : Job → LogCounts → State
first_state job counts =
    state (first_store job) (record { lines = []; pending = []; log = []; warnings = counts.warnings; errors = counts.errors })

-- the bound of a run: `once` steps, and `each` steps for each entry of the list
abbrev pub bound_of : ℕ → ℕ → Job → ℕ
bound_of once each job = once + length job.library.entries * each

-- THE PROMISE: the style ends. Whatever the databases hold, but for entries of types that aren't allowed, and with any budget that is at least the bound, a run
-- of it in which global string variables keep at most `kept` bytes isn't stopped, and takes at most as many steps as the bound says
abbrev pub StyleEnds : Style → List ℕ → ℕ → ℕ → ℕ → Type 0
StyleEnds style allowed kept once each = (job : Job) → IsOf style allowed kept job → (counts : LogCounts) (budget : ℕ) → bound_of once each job ≤ budget
    → EndsWithin (bound_of once each job) budget (do_items job job.style.items [] budget (first_state job counts))

-- the same in the words of a run's report: it doesn't say that the run was stopped
abbrev pub ReportsNoStop : Type 0
ReportsNoStop = (style : Style) (allowed : List ℕ) (kept once each : ℕ) → StyleEnds style allowed kept once each
    → (job : Job) → IsOf style allowed kept job → (counts : LogCounts) (line_length budget : ℕ) → bound_of once each job ≤ budget
    → (style_product job counts line_length budget).report.end ≢ StoppedEnd
