-- The turn of a loop, and the outcome of the ending that the machine answers.
use Rattle.std.specs.Prelude.{ℕ, Bool}
use Rattle.btx_machine.specs.declared.ending.Ending.{Ending}
use Rattle.btx_machine.specs.declared.ending.Ending.TheVariants as ending
use Rattle.btx_machine.specs.language.States.{State, Outcome, Done, Stopped, Limit, LoopTurn}

-- a turn of a loop made of its two parts
abbrev pub turn : Bool → State → LoopTurn
turn again s = record { again = again; state = s }

-- the outcome of this ending
abbrev pub outcome_of : Ending → State → ℕ → Outcome
outcome_of ending.Finished s left = Done s left
outcome_of ending.Stopped s left = Stopped s
outcome_of (ending.Limit kind) s left = Limit kind s left
