-- The line of a place: the number of the lines that have begun when the byte there has been read. At the end of a text that is the
-- number of its lines.
use Rattle.std.specs.Prelude.{ℕ, List, length, take}
use Rattle.btx_text.specs.language.Lines.{line_pieces}

-- the number of lines that begin in the first `count` bytes of a text
unfoldable pub lines_begun : ℕ → List ℕ → ℕ
lines_begun count text = length (line_pieces (take count text))
