-- A log that is joined with a notebook.
use Rattle.std.specs.Prelude.{ℕ, List, Option, None, ⊤}
use Rattle.btx_text.specs.declared.failures.Failures.{Failures}
use Rattle.btx_text.specs.language.LogLines.{Line}
use Rattle.btx_machine.specs.declared.wholeness.Wholeness.{Wholeness}
use Rattle.btx_machine.specs.declared.wholeness.Wholeness.TheVariants.{Whole, CutOff, Lost}
use Rattle.btx_machine.specs.laws.Noting.{Printed, BrokenOff}
use Rattle.btx_machine.specs.refinement.Met.{Met}

-- what a log had received and a notebook had noted when they were joined
pub record Beginning : Type 0 where
  pub received : Option (List ℕ)
  pub noted : Option (List Line)

-- of a log and a notebook that show nothing
abbrev pub no_beginning : Beginning
no_beginning = record { received = None; noted = None }

-- which sink and which notebook are joined, and what they had then
pub record Joined : Type 0 where
  pub sink : ℕ
  pub notebook : ℕ
  pub since : Beginning

-- a log whose lines are noted
pub record NotedLog : Type 0 where
  pub received : Option (List ℕ)
  pub failures : Failures
  pub noted : Option (List Line)
  pub handed : Option (List Met)
  pub joined : Joined
  pub wholeness : Wholeness

-- what the log has received since then of what was noted since then
abbrev pub HasNoted : Beginning → Option (List Line) → Option (List ℕ) → Wholeness → Type 0
HasNoted since noted received Whole = Printed (since.noted, noted) (since.received, received)
HasNoted since noted received CutOff = BrokenOff (since.noted, noted) (since.received, received)
HasNoted since noted received Lost = ⊤
