-- What stands between two places of a text: nothing is read twice, and nothing is left out.
use Rattle.std.specs.Prelude.{◌≡◌, ℕ, ◌+◌, List, [], ◌∷◌, ◌++◌, length}
use Rattle.btx_text.specs.laws.Bytes.{line_feed}
use Rattle.btx_bst.specs.language.Places.{Place, ink, skipped}
use Rattle.btx_bst.specs.language.Style.{Style}
use Rattle.btx_bst.specs.language.StyleText.{command_outcome}

-- the text of lines that follow another one: each after a line feed
abbrev pub lines_text : List (List ℕ) → List ℕ
lines_text [] = []
lines_text (line ∷ lines) = line_feed ∷ (line ++ lines_text lines)

-- what is left of a text at a place
abbrev pub text_from : Place → List ℕ
text_from place = place.line ++ lines_text place.after

-- a text stands from one place to another; and the number of the line counts the lines between
pub record Passage (from to : Place) : Type 0 where
  pub between : List ℕ
  pub joined : text_from from ≡ between ++ text_from to
  pub counted : to.number + length to.after ≡ from.number + length from.after

-- Whitespace and comments stand before a command.
abbrev pub InkLaw : Type 0
InkLaw = (place : Place) → Passage place (ink place)

-- The text of a command stands from where it begins to where it ends, or to its fault.
abbrev pub CommandLaw : Type 0
CommandLaw = (style : Style) (place : Place) → Passage place (command_outcome style place).place

-- what is skipped after a fault stands between the place of the fault and the place where reading begins again
abbrev pub SkipLaw : Type 0
SkipLaw = (place : Place) → Passage place (skipped place)
