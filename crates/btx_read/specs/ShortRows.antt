-- Rows that take less memory, without the places of their names and texts.
use Rattle.std.specs.Prelude.{◌≡◌, ℕ, ◌+◌, List, [], ◌∷◌, ◌++◌, length, take, drop}
use Rattle.btx_read.specs.declared.record.Record.{Record}
use Rattle.btx_read.specs.declared.row.Row.{Row}
use Rattle.btx_read.specs.declared.short_rows.ShortRow.{ShortRow}
use Rattle.btx_read.specs.declared.short_rows.ShortRows.{ShortRows}
use Rattle.btx_read.specs.Rows.{is_whole, kind_of, name_of, text_of}

-- the short row of a record whose name and text have these numbers of bytes
abbrev pub short_row : Record → ℕ → ℕ → ShortRow
short_row one name_len text_len = record {
  kind = kind_of one.content;
  is_whole = is_whole one.content;
  start = one.start;
  end = one.end;
  line = one.line;
  name_len = name_len;
  text_len = text_len;
}

-- the short row of a record of a file
abbrev pub short_of : List ℕ → Record → ShortRow
short_of file one = short_row one (length (name_of one.content)) (length (text_of file one))

-- the row of a short one, before which the room has `room` bytes
abbrev pub row_from : ℕ → ShortRow → Row
row_from room short = record {
  kind = short.kind;
  is_whole = short.is_whole;
  start = short.start;
  end = short.end;
  line = short.line;
  name_at = room;
  name_len = short.name_len;
  text_at = room + short.name_len;
  text_len = short.text_len;
}

-- how many bytes of the room a row has
abbrev pub bytes_of : ShortRow → ℕ
bytes_of short = short.name_len + short.text_len

-- the rows of short ones, before which the room has `room` bytes
abbrev pub rows_from : ℕ → List ShortRow → List Row
rows_from room [] = []
rows_from room (one ∷ others) = row_from room one ∷ rows_from (room + bytes_of one) others

-- how many bytes of the room rows have
abbrev pub bytes_of_all : List ShortRow → ℕ
bytes_of_all [] = 0
bytes_of_all (one ∷ others) = bytes_of one + bytes_of_all others

-- short rows stand for these rows, whose names and texts are in their room
pub record StandFor (made : ShortRows) (rows : List Row) : Type 0 where
  pub rows_are : rows_from 0 made.rows.items ≡ rows
  pub count_is : length made.rows.items ≡ length rows
  pub bytes_are : bytes_of_all made.rows.items ≡ length made.texts.items

-- memory into which rows were put, as many as there is room for; the rest stays
abbrev pub put_into : List Row → List Row → List Row
put_into room rows = take (length room) rows ++ drop (length rows) room
