-- How a style is spelled. A text is commands, one after another, of which each is whole or has a fault, and its end. After a fault all is
-- skipped up to the next empty line.
use Rattle.std.specs.Prelude.{◌≡◌, ℕ, ◌+◌, List, [], ◌∷◌, ◌++◌, length, None, Some}
use Rattle.btx_bst.specs.language.Places.{Place, place_at, ink, skipped}
use Rattle.btx_bst.specs.language.Complaints.{Complaint}
use Rattle.btx_bst.specs.language.Items.{Message}
use Rattle.btx_bst.specs.language.Style.{Style}
use Rattle.btx_bst.specs.language.Outcomes.{outcome, with_item}
use Rattle.btx_bst.specs.language.StyleText.{StyleState, style_state, command_outcome, style_from}

-- a command, whole or with what is wrong and its line
pub data SpelledCommand : Type 0 where
  Whole : SpelledCommand
  Faulty : (complaint : Complaint) (line : ℕ) → SpelledCommand

-- nothing but whitespace and comments is left of a text
abbrev pub IsEnd : Place → Type 0
IsEnd place = (ink place).line ≡ []

-- from `from` on the text is these commands, and then its end, where the style is `end`
abbrev pub GivesStyle : List SpelledCommand → StyleState → Style → Type 0
GivesStyle [] from end = IsEnd from.place × (from.style ≡ end)
GivesStyle (Whole ∷ more) from end = (next : StyleState) × (IsEnd from.place → ⊥)
    × (command_outcome from.style (ink from.place) ≡ outcome None next.style next.place) × GivesStyle more next end
GivesStyle (Faulty complaint line ∷ more) from end =
    (next : StyleState) × (IsEnd from.place → ⊥) × (command_outcome from.style (ink from.place) ≡ outcome (Some complaint) next.style next.place)
    × (line ≡ next.place.number) × GivesStyle more (style_state (with_item (Message complaint line) next.style) (skipped next.place)) end

-- A text is read as its commands give it.
abbrev pub GivenLaw : Type 0
GivenLaw = (steps : List SpelledCommand) (from : StyleState) (end : Style) → GivesStyle steps from end → style_from from ≡ end

-- Every text is commands and its end.
abbrev pub GivingLaw : Type 0
GivingLaw = (from : StyleState) → (steps : List SpelledCommand) × (end : Style) × GivesStyle steps from end

-- none of these lines is empty
abbrev pub AreFull : List (List ℕ) → Type 0
AreFull [] = Unit {0}
AreFull (line ∷ lines) = (line ≡ [] → ⊥) × AreFull lines

-- What comes after a fault up to the next empty line, or up to the end, changes nothing but the number of the line.
abbrev pub SkippedLaw : Type 0
SkippedLaw = (number : ℕ) (line : List ℕ) (lines after : List (List ℕ)) → AreFull lines
    → skipped (place_at number line (lines ++ [] ∷ after)) ≡ place_at (number + length lines + 1) [] after

-- Where no empty line comes after a fault, all up to the end of the text is skipped, and the end has the number of the last line.
abbrev pub SkippedToEndLaw : Type 0
SkippedToEndLaw = (number : ℕ) (line : List ℕ) (lines : List (List ℕ)) → AreFull lines
    → skipped (place_at number line lines) ≡ place_at (number + length lines) [] []
