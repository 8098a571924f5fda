-- How a logical line, the text between two `newline$`, is broken into lines. The output of `write$` is broken reasonably (btxhak,
-- section 5.3, at `newline$` and `write$`); the numbers 79 and 3 and the two spaces are the original's, and
-- that the whole logical line is broken is this project's own. `line_length` is the greatest length of a line.
use Rattle.std.specs.Prelude.{ℕ, zero, suc, ◌+◌, ◌&&◌, nat_le, Bool, true, false, List, [], ◌∷◌, ◌++◌, length, take, drop, Option, None, Some, slice_index}
use Rattle.std.specs.Prelude.{codes, if◌then◌else◌}
use Rattle.std.specs.List.{flat_map}
use Rattle.btx_text.specs.language.Class.{is_white}
use Rattle.btx_text.specs.language.Lines.{trimmed}
use Rattle.btx_out.specs.declared.breaker.TheConstants.{FIRST_BREAK}

-- ---- a line

-- a text with a line feed after it; nothing for the empty text
abbrev pub with_line_feed : List ℕ → List ℕ
with_line_feed [] = []
with_line_feed (b ∷ bs) = b ∷ bs ++ codes "\n"

-- a line as it is written: without the whitespace at its end, and with a line feed. Whitespace alone gives nothing, but no text at all an empty
-- line.
abbrev pub written_line : List ℕ → List ℕ
written_line [] = codes "\n"
written_line (b ∷ bs) = with_line_feed (trimmed (b ∷ bs))

-- ---- where a text is broken

-- a text without the whitespace at its front
unfoldable pub skip_white : List ℕ → List ℕ
skip_white [] = []
skip_white (b ∷ bs) = if is_white b then skip_white bs else b ∷ bs

-- a text up to its first whitespace
unfoldable pub till_white : List ℕ → List ℕ
till_white [] = []
till_white (b ∷ bs) = if is_white b then [] else b ∷ till_white bs

-- a text from its first whitespace on
unfoldable pub from_white : List ℕ → List ℕ
from_white [] = []
from_white (b ∷ bs) = if is_white b then b ∷ bs else from_white bs

-- the greatest index at which a text has whitespace, among those from `FIRST_BREAK`, 3, on and below the given number; none if there is none
unfoldable pub last_white : ℕ → List ℕ → Option ℕ
last_white zero text = None
last_white (suc i) text = if nat_le FIRST_BREAK i && is_white (slice_index text i) then Some i else last_white i text

-- where a text is broken: whether the break lies past the line, what stands before it (the head), and what stands after it (the rest)
pub data Break : Type 0 where
  Unbroken : Break
  Broken : Bool → List ℕ → List ℕ → Break

-- the break past the line, after `head`, given the text from the next whitespace on: that run of whitespace is removed; without whitespace there is
-- no break
abbrev pub break_past : List ℕ → List ℕ → Break
break_past head [] = Unbroken
break_past head (b ∷ bs) = Broken true head (skip_white bs)

-- the break at the whitespace of index `i`, which alone is removed. Without such an index, the break is at the first run of whitespace past the line,
-- and all of the run is removed; without such a run there is no break
abbrev pub break_at : ℕ → List ℕ → Option ℕ → Break
break_at line_length text (Some i) = Broken false (take i text) (drop (i + 1) text)
break_at line_length text None =
    break_past (take (line_length + 1) text ++ till_white (drop (line_length + 1) text)) (from_white (drop (line_length + 1) text))

-- the break of a text that is longer than a line: at the last whitespace that leaves the head within the line, from index 3 on; else at the first
-- run of whitespace past the line; else none
unfoldable pub break_of : ℕ → List ℕ → Break
break_of line_length text = break_at line_length text (last_white (line_length + 1) text)

-- what stands after a break, after two spaces
abbrev pub indented : List ℕ → List ℕ
indented rest = codes "  " ++ rest

-- ---- the pieces of a logical line

-- what a logical line ends in, after its last break: a text that fits a line, a longer one without a break, or nothing (and then
-- whether that last break lay past the line)
pub data Last : Type 0 where
  Short : List ℕ → Last
  Long : List ℕ → Last
  Nothing : Bool → Last

-- a logical line in pieces: the heads of its breaks, and what it ends in
pub record Cut : Type 0 where
  pub heads : List (List ℕ)
  pub last : Last

-- a logical line that isn't broken
abbrev pub only : Last → Cut
only last = record { heads = []; last = last }

-- a logical line whose first line is `head`, and that goes on as `cut`
abbrev pub with_head : List ℕ → Cut → Cut
with_head head cut = record { heads = head ∷ cut.heads; last = cut.last }

-- the pieces of a text whose break is given; `cut` gives the pieces of what follows the break
abbrev pub cut_at : (List ℕ → Cut) → List ℕ → Break → Cut
cut_at cut text Unbroken = only (Long text)
cut_at cut text (Broken past head []) = with_head head (only (Nothing past))
cut_at cut text (Broken past head (b ∷ rest)) = with_head head (cut (indented (b ∷ rest)))

-- the pieces after at most `turns` breaks
unfoldable pub cut_within : ℕ → ℕ → List ℕ → Cut
cut_within zero line_length text = only (Short text)
cut_within (suc turns) line_length text =
    if nat_le (length text) line_length then only (Short text) else cut_at (cut_within turns line_length) text (break_of line_length text)

-- the pieces of a logical line. A break takes four bytes at least and puts two before what follows, for every line length that can be asked for. So
-- the text gets shorter, and the bound is never reached
unfoldable pub cut_of : ℕ → List ℕ → Cut
cut_of line_length text = cut_within (length text) line_length text

-- ---- what is written

-- what is written of the last piece when the logical line ends
abbrev pub written_last : Last → List ℕ
written_last (Short text) = written_line text
written_last (Long text) = text ++ codes "\n"
written_last (Nothing past) = []

-- what is certain to be written of the last piece, whatever follows: all of a text that is longer than a line and has no break; else nothing
abbrev pub sure_last : Last → List ℕ
sure_last (Long text) = text
sure_last _ = []

-- what is written of a logical line that has ended
abbrev pub wrap : ℕ → List ℕ → List ℕ
wrap line_length text = flat_map written_line (cut_of line_length text).heads ++ written_last (cut_of line_length text).last

-- what is written of a logical line before it has ended: only what no further byte can change
abbrev pub committed : ℕ → List ℕ → List ℕ
committed line_length text = flat_map written_line (cut_of line_length text).heads ++ sure_last (cut_of line_length text).last

-- what has been written of logical lines that have ended, one after another, and of one that is pending
abbrev pub written_of : ℕ → List (List ℕ) → List ℕ → List ℕ
written_of line_length ended_lines pending = flat_map (wrap line_length) ended_lines ++ committed line_length pending
