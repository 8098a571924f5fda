-- The pieces of a string between gaps: a gap goes from one place to another.
use Rattle.std.specs.Prelude.{ℕ, ◌+◌, List, [], ◌∷◌, drop, slice_range}

-- a gap of a string: the place at which it begins, and the place after it
abbrev pub NameGap : Type 0
NameGap = ℕ × ℕ

-- the pieces of a string from a place on, between its gaps
unfoldable pub pieces_between : ℕ → List NameGap → List ℕ → List (List ℕ)
pieces_between from [] string = drop from string ∷ []
pieces_between from (gap ∷ gaps) string = slice_range string from gap.0 ∷ pieces_between gap.1 gaps string

-- the letters of a separator of names, which come after the whitespace byte at a place
abbrev pub and_word_range : ℕ → NameGap
and_word_range place = (place + 1, place + 4)

-- the gap of one byte, at a place
abbrev pub byte_gap : ℕ → NameGap
byte_gap place = (place, place + 1)
