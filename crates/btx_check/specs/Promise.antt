-- What is promised of a style that is clean: over the meaning of styles that the program itself is proved to meet.
use Rattle.std.specs.Prelude.{◌≡◌, ℕ, ◌≤◌, List, [], Some, Bool, true, nat_eq}
use Rattle.std.specs.List.{list_any}
use Rattle.btx_text.specs.declared.limits.Limit.{Limit as Kind}
use Rattle.btx_text.specs.declared.limits.Limit.TheVariants.{Literals, Calls, Loops}
use Rattle.btx_bst.specs.language.Style.{Style}
use Rattle.btx_bib.specs.language.Library.{entry_type}
use Rattle.btx_step.specs.language.Entries.{entry_of}
use Rattle.btx_step.specs.language.Jobs.{Job}
use Rattle.btx_step.specs.language.Starts.{first_store}
use Rattle.btx_machine.specs.declared.report.LogCounts.{LogCounts}
use Rattle.btx_machine.specs.language.States.{Out, State, state, Outcome, Done, Stopped, Limit}
use Rattle.btx_machine.specs.language.Items.{do_items}
use Rattle.btx_check.specs.Calm.{CalmItems}

-- a limit at which a run of a clean style may end: those of literals, open bodies and running loops are never met
abbrev pub IsSpared : Kind → Type 0
IsSpared Literals = ⊥
IsSpared Calls = ⊥
IsSpared Loops = ⊥
IsSpared _ = Unit {0}

-- however a run ends: at no time were more than `deepest` bodies open at once, and if it ended at a limit, that is none of the three
abbrev pub Promised : ℕ → Outcome → Type 0
Promised deepest (Done s left) = s.store.deepest ≤ deepest
Promised deepest (Stopped s) = s.store.deepest ≤ deepest
Promised deepest (Limit kind s left) = (s.store.deepest ≤ deepest) × IsSpared kind

-- a function, by its number, is one of these
abbrev pub is_among : List ℕ → ℕ → Bool
is_among numbers number = list_any (λ f. nat_eq f number) numbers

-- the jobs for which the promise is made: those of the style in which a variable keeps a byte or more, and each entry's type is none that the style
-- knows, or one of the `allowed` functions
pub record IsOf (style : Style) (allowed : List ℕ) (job : Job) : Type 0 where
  pub same : job.style ≡ style
  pub global_max : 1 ≤ job.global_max
  pub entry_max : 1 ≤ job.entry_max
  pub types : (entry number : ℕ) → entry_type (entry_of job entry) ≡ Some number → is_among allowed number ≡ true

-- the greatest budget for which the promise is made: 1,500,000,000 steps, half as many again as the command has by itself
abbrev pub most_steps : ℕ
most_steps = 1500000000

-- where nothing was written yet
abbrev pub first_out : LogCounts → Out
first_out counts = record { lines = []; pending = []; log = []; warnings = counts.warnings; errors = counts.errors }

-- where a run of a style begins
abbrev pub first_state : Job → LogCounts → State
first_state job counts = state (first_store job) (first_out counts)

-- THE PROMISE: the style is clean. Whatever the databases hold, but for entries of types that aren't allowed, however text is read, however much variables
-- keep from one byte on, and with any budget up to `most_steps`: no step of a run of it has a fault, no command leaves literals, and no run ends at the limit
-- of literals, open bodies or running loops, or has more than `deepest` bodies open at once
abbrev pub StyleIsClean : Style → List ℕ → ℕ → Type 0
StyleIsClean style allowed deepest = (job : Job) → IsOf style allowed job → (counts : LogCounts) (budget : ℕ) → budget ≤ most_steps
    → CalmItems job job.style.items [] budget (first_state job counts)
    × Promised deepest (do_items job job.style.items [] budget (first_state job counts))
