-- The style of a text: its items, one after another.
use Rattle.std.specs.Prelude.{ℕ, suc, false, List, [], ◌∷◌, Option, None, Some}
use Rattle.btx_text.specs.language.Keys.{folded}
use Rattle.btx_bst.specs.declared.command.Command.{Command}
use Rattle.btx_bst.specs.language.Places.{Place, ink, size, skipped, place_at}
use Rattle.btx_bst.specs.language.Complaints.{Complaint, NotCommand}
use Rattle.btx_bst.specs.language.Lists.{letters_at}
use Rattle.btx_bst.specs.language.Items.{Message}
use Rattle.btx_bst.specs.language.Style.{Style}
use Rattle.btx_bst.specs.language.Predefined.{predefined}
use Rattle.btx_bst.specs.language.Outcomes.{CommandOutcome, outcome, after_read, with_item}
use Rattle.btx_bst.specs.language.Commands.{command_at, command_named}
use Rattle.btx_bst.specs.language.Turns.{Turn, Again, Ends, turns_within}
use Rattle.btx_text.specs.language.Lines.{lines_of}
use Rattle.std.specs.Option.{option_map_or}

-- how far the reading of a style has come: the style so far, and the place where it goes on
pub record StyleState : Type 0 where
  pub style : Style
  pub place : Place

-- how far the reading of a style has come, of the style so far and the place
abbrev pub style_state : Style → Place → StyleState
style_state style place = record { style = style; place = place }

-- reads a command, which begins with a word of letters; it is an error if that word is none of the ten commands
abbrev pub command_outcome : Style → Place → CommandOutcome
command_outcome style place =
    after_read style (letters_at place) (λ word behind.
    option_map_or (λ (command : Command). command_at command style behind)
    (command_named (folded word))
    (outcome (Some (NotCommand word)) style behind))

-- how the reading of a style goes on after a command: at the place where that ends, or, if something was wrong, after the next empty line, with a
-- message
abbrev pub resumed : Option Complaint → Style → Place → StyleState
resumed complaint style place =
    option_map_or
    (λ (said : Complaint). style_state (with_item (Message said place.number) style) (skipped place))
    complaint (style_state style place)

-- reads a command at a place that isn't in whitespace or a comment; at the end of the text the style ends. After the command reading goes on where it
-- ends. If something was wrong, it goes on after the next empty line, with a message
abbrev pub item_in : Style → Place → List ℕ → Turn StyleState Style
item_in style place [] = Ends style
item_in style place (b ∷ bs) =
    let after = command_outcome style place in
    Again (resumed after.complaint after.style after.place)

-- the command that stands next is read, or the text ends and with it the style
unfoldable pub item_turn : StyleState → Turn StyleState Style
item_turn state = item_in state.style (ink state.place) (ink state.place).line

-- the style after all commands that are left. The bound on turns is never reached: each turn but the last one reads or skips a byte at least
unfoldable pub style_from : StyleState → Style
style_from state = turns_within item_turn (λ (state : StyleState). state.style) (suc (size state.place)) state

-- the style whose file has the name `file` and the bytes `text`; before anything of it is read it has the names that are known before each style, and
-- the place is before the first line, with number 0
unfoldable pub style_of : List ℕ → List ℕ → Style
style_of file text =
    style_from (
    style_state
    (record { file = file; items = []; names = predefined; macros = []; bodies = []; texts = []; has_entry = false; before_read = None })
    (place_at 0 [] (lines_of text)))
