-- Places of a style's text. A text is read line by line: a place has the number of its line, what is left of that line, and the lines
-- after it.
use Rattle.std.specs.Prelude.{ℕ, suc, ◌+◌, ◌==◌, List, [], ◌∷◌, length, if◌then◌else◌}
use Rattle.std.specs.Str.{byte}
use Rattle.btx_text.specs.language.Class.{is_white}

-- a place in a style's text: the number of its line, what is left of that line, and the lines after it
pub record Place : Type 0 where
  pub number : ℕ
  pub line : List ℕ
  pub after : List (List ℕ)

-- a place, of its three parts
abbrev pub place_at : ℕ → List ℕ → List (List ℕ) → Place
place_at number line after = record { number = number; line = line; after = after }

-- a line without the whitespace and the comment at its front; a comment goes from a `%` to the end of the line
unfoldable pub behind_white : List ℕ → List ℕ
behind_white [] = []
behind_white (b ∷ bs) = if is_white b then behind_white bs else if b == byte "%" then [] else b ∷ bs

-- a place on line `number`, if anything is left of that line; else the place `later`
abbrev pub line_or : ℕ → List ℕ → List (List ℕ) → Place → Place
line_or number [] after later = later
line_or number (b ∷ bs) after later = place_at number (b ∷ bs) after

-- the first place from here on that isn't in whitespace or a comment; at the end of the text, a place with the number of the last line
unfoldable pub ink_from : ℕ → List ℕ → List (List ℕ) → Place
ink_from number line [] = place_at number (behind_white line) []
ink_from number line (next ∷ after) = line_or number (behind_white line) (next ∷ after) (ink_from (number + 1) next after)

-- the place where the next thing stands: the first from a place on that has neither whitespace nor a comment, or the end of the text
abbrev pub ink : Place → Place
ink place = ink_from place.number place.line place.after

-- the end of the next empty line, or of the text
unfoldable pub skipped_from : ℕ → List (List ℕ) → Place
skipped_from number [] = place_at number [] []
skipped_from number ([] ∷ after) = place_at (number + 1) [] after
skipped_from number ((b ∷ bs) ∷ after) = skipped_from (number + 1) after

-- the place where reading begins again after a fault: the end of the next empty line after a place, or of the text
abbrev pub skipped : Place → Place
skipped place = skipped_from place.number place.after

-- a later place on the same line, before `rest`
abbrev pub further : Place → List ℕ → Place
further place rest = place_at place.number rest place.after

-- how much of a text is left: its bytes, and one for each line
unfoldable pub lines_size : List (List ℕ) → ℕ
lines_size [] = 0
lines_size (line ∷ lines) = suc (length line + lines_size lines)

-- how much of a text is left from a place on: the bytes of its line, and its later lines, each with one more; it bounds the turns of a reading
unfoldable pub size : Place → ℕ
size place = length place.line + lines_size place.after
