-- The lines of a text: it is cut at its line feeds, and each line loses the whitespace at its end. What follows the last line feed is a
-- line too, unless nothing does.
use Rattle.std.specs.Prelude.{ℕ, ◌==◌, List, [], ◌∷◌, map, if◌then◌else◌}
use Rattle.btx_text.specs.language.Class.{is_white}
use Rattle.std.specs.List.{onto_first}
use Rattle.std.specs.Str.{byte}

-- the text cut at its line feeds; the part after the last line feed counts only if it has a byte (the original cuts at carriage returns, too)
unfoldable pub line_pieces : List ℕ → List (List ℕ)
line_pieces [] = []
line_pieces (b ∷ bs) = if b == byte "\n" then [] ∷ line_pieces bs else onto_first b (line_pieces bs)

-- whitespace `b` is kept only if something follows it on its line
abbrev pub white_before : ℕ → List ℕ → List ℕ
white_before b [] = []
white_before b (c ∷ cs) = b ∷ c ∷ cs

-- a line without the whitespace at its end
unfoldable pub trimmed : List ℕ → List ℕ
trimmed [] = []
trimmed (b ∷ bs) = if is_white b then white_before b (trimmed bs) else b ∷ trimmed bs

-- the lines of a text, each without the whitespace at its end
abbrev pub lines_of : List ℕ → List (List ℕ)
lines_of text = map trimmed (line_pieces text)
