-- How far a run has come.
use Rattle.std.specs.Prelude.{◌≡◌, ◌≤◌, ℕ, suc, ◌+◌, ◌⊎◌, List, []}
use Rattle.btx_machine.specs.declared.ending.Ending.{Ending}
use Rattle.btx_machine.specs.refinement.Outputs.{Outputs, Work}
use Rattle.btx_machine.specs.language.States.{Out, State, state, Stopped}
use Rattle.btx_machine.specs.laws.States.{final_state}
use Rattle.btx_machine.specs.laws.Goings.{Starts}
use Rattle.btx_machine.specs.refinement.Faults.{Writes}
use Rattle.btx_machine.specs.refinement.Marks.{Open}
use Rattle.btx_machine.specs.refinement.Written.{Start, StandsFor, Between, Comes, Within, Runs}
use Rattle.btx_machine.specs.refinement.Commands.{Doing}

-- with this number of steps the run is stopped, and what it wrote begins what stands now
pub record StoppedAt (whole : Doing) (n : ℕ) (s t : State) : Type 0 where
  pub least : State
  pub stopped : whole n s ≡ Stopped least
  pub starts : Starts least.out t.out

-- so it is with one step less than taken
abbrev pub StoppedBefore : Doing → ℕ → State → State → Type 0
StoppedBefore whole taken s t = (n : ℕ) → taken ≡ suc n → StoppedAt whole n s t

-- a run has taken this number of steps, and the rest remains to be done
pub record Reached (whole rest : Doing) (taken : ℕ) (s t : State) : Type 0 where
  pub goes_on : (n : ℕ) → rest n t ≡ whole (n + taken) s
  pub before : StoppedBefore whole taken s t
  pub adds : Starts s.out t.out

-- between two entries of a command, or two items of a style: nothing is open, no more steps are left than there were, the list of references can be
-- written to, and of what was done so far `claim` holds
pub record Midway (old new : Work) (opens : List Open) (left left' : ℕ) (claim : State → State → Type 0) : Type 0 where
  pub marks : opens ≡ []
  pub fewer : left' ≤ left
  pub writes : Writes new.outputs
  pub same : Comes old new claim

-- a run has ended, with this number of steps taken
pub record RunEnded (whole : Doing) (taken : ℕ) (end : Ending) (s t : State) : Type 0 where
  pub runs : Runs whole taken end s t
  pub before : StoppedBefore whole taken s t

-- a run that failed: the sinks have received no more than a run without a step writes, or stand within the same step
abbrev pub FailsInStep : Work → ℕ → Outputs → Doing → Type 0
FailsInStep old budget new run = (start : Start) (out : Out) → StandsFor start old.outputs out →
    Between start new out (final_state (run 0 (state old.store out))).out ⊎ Within start new budget (λ n. run n (state old.store out))
