-- The style of a state, as proofs name it.
use Rattle.btx_bst.specs.language.Style.{Style}
use Rattle.btx_bst.specs.language.StyleText.{StyleState, resumed}
use Rattle.btx_bst.specs.language.Outcomes.{CommandOutcome, outcome}
use Rattle.std.specs.Prelude.{Option, Some, ℕ, List}
use Rattle.btx_bst.specs.language.Places.{Place}
use Rattle.btx_bst.specs.language.Complaints.{NotCommand}
use Rattle.btx_bst.specs.declared.command.Command.{Command}
use Rattle.btx_bst.specs.language.Commands.{command_at}
use Rattle.std.specs.Option.{option_map_or}

-- what a command comes to, given its word and which of the ten it is; an error if it is none of them
abbrev pub word_outcome : Style → Place → List ℕ → Option Command → CommandOutcome
word_outcome style place word known =
    option_map_or (λ (command : Command). command_at command style place) known (outcome (Some (NotCommand word)) style place)

-- goes on after a command: directly after it, or after a complaint at the next empty line
abbrev pub resumed_after : CommandOutcome → StyleState
resumed_after outcome = resumed outcome.complaint outcome.style outcome.place

-- the style as it has been read so far
abbrev pub style_so_far : StyleState → Style
style_so_far state = state.style
