-- How a pending line goes on, byte by byte, from what is left of it: the law of line breaking.
use Rattle.std.specs.Prelude.{ℕ, ◌+◌, nat_lt, List, [], ◌∷◌, ◌++◌, drop, take, length, Option, None, Some, if◌then◌else◌}
use Rattle.btx_text.specs.language.Class.{is_white}
use Rattle.btx_out.specs.language.Breaking.{indented, last_white, written_line}
use Rattle.btx_out.specs.laws.Breaking.{Left, Collecting, Passing, Swallowing}

-- what is left after a byte, and what becomes sure by it
abbrev pub ByteStep : Type 0
ByteStep = Left × List ℕ

-- a text of one byte more than a line: broken at its last whitespace byte, or passed on
abbrev pub break_full : List ℕ → Option ℕ → ByteStep
break_full text (Some i) = (Collecting (indented (drop (i + 1) text)), written_line (take i text))
break_full text None = (Passing, text)

-- how a pending line goes on with one more byte `b`: what is left of it then, and what becomes sure. (This is no step of a run)
abbrev pub step : ℕ → Left → ℕ → ByteStep
step line_length (Collecting text) b =
    if nat_lt (length text) line_length then (Collecting (text ++ b ∷ []), []) else break_full (text ++ b ∷ []) (last_white (line_length + 1) (text ++ b ∷ []))
step line_length Passing b = if is_white b then (Swallowing, 10 ∷ []) else (Passing, b ∷ [])
step line_length Swallowing b = if is_white b then (Swallowing, []) else (Collecting (indented (b ∷ [])), [])

-- what is left of a pending line after more bytes, one after another
unfoldable pub left_after : ℕ → Left → List ℕ → Left
left_after line_length state [] = state
left_after line_length state (b ∷ bs) = left_after line_length (step line_length state b).0 bs

-- what becomes sure of a pending line by more bytes, one after another
unfoldable pub sure_after : ℕ → Left → List ℕ → List ℕ
sure_after line_length state [] = []
sure_after line_length state (b ∷ bs) = (step line_length state b).1 ++ sure_after line_length (step line_length state b).0 bs

-- what the end of the logical line writes, by what is left of it
abbrev pub end_written : Left → List ℕ
end_written (Collecting text) = written_line text
end_written Passing = 10 ∷ []
end_written Swallowing = []

-- what is written by more bytes and the end of the logical line
abbrev pub wrap_after : ℕ → Left → List ℕ → List ℕ
wrap_after line_length state bytes = sure_after line_length state bytes ++ end_written (left_after line_length state bytes)
