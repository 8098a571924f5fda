-- What is left of a pending line beside what is written of it.
use Rattle.std.specs.Prelude.{ℕ, true, false, List, []}
use Rattle.btx_out.specs.language.Breaking.{indented, Last, Short, Long, Nothing, cut_of}

-- what there is to know of a pending line beside what is written: a text that is still collected, or that the line's beginning
-- is being passed on, or that the whitespace after a break past the line is being swallowed
pub data Left : Type 0 where
  Collecting : List ℕ → Left
  Passing : Left
  Swallowing : Left

-- what is left of the last piece; after a break inside the line the next one has its two spaces already
abbrev pub left_last : Last → Left
left_last (Short text) = Collecting text
left_last (Long text) = Passing
left_last (Nothing true) = Swallowing
left_last (Nothing false) = Collecting (indented [])

-- what is left of a pending line
abbrev pub left : ℕ → List ℕ → Left
left line_length text = left_last (cut_of line_length text).last
