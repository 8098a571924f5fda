-- Records as rows of numbers, with their names and texts in a room of texts.
use Rattle.std.specs.Prelude.{ℕ, ◌+◌, Bool, true, List, [], ◌∷◌, ◌++◌, Option, length, map, take, drop, is_some, unwrap_or}
use Rattle.btx_bib.specs.declared.grammar.slip.SyntaxError.{SyntaxError}
use Rattle.btx_bib.specs.declared.message.Message.TheVariants as message
use Rattle.btx_bib.specs.declared.message.SourcePosition.{SourcePosition}
use Rattle.btx_bib.specs.language.MessageTexts.{message_line}
use Rattle.btx_read.specs.declared.content.Content.{Content}
use Rattle.btx_read.specs.declared.content.Content.TheVariants.{Comment, Preamble, Definition, Entry, Field, End, Wrong}
use Rattle.btx_read.specs.declared.record.Record.{Record}
use Rattle.btx_read.specs.declared.row.Row.{Row}

-- ---- what is shown of a record

-- the number of what a record is
abbrev pub kind_of : Content → ℕ
kind_of Comment = 0
kind_of (Preamble text) = 1
kind_of (Definition name text) = 2
kind_of (Entry kind key) = 3
kind_of (Field name text) = 4
kind_of End = 5
kind_of (Wrong slip) = 6

-- the name of a record: of an entry its type
abbrev pub name_of : Content → List ℕ
name_of (Definition name text) = name
name_of (Entry kind key) = kind
name_of (Field name text) = name
name_of _ = []

-- the text of a record is there: it isn't longer than a string may be
abbrev pub is_whole : Content → Bool
is_whole (Preamble text) = is_some text
is_whole (Definition name text) = is_some text
is_whole (Field name text) = is_some text
is_whole _ = true

-- a text, or nothing if it is left out
abbrev pub given : Option (List ℕ) → List ℕ
given text = unwrap_or text []

-- the line that a run logs of what is wrong at a place
abbrev pub wrong_line : SyntaxError → SourcePosition → List ℕ
wrong_line slip spot = (message_line (message.Wrong slip spot)).text

-- the text of a record of a file: of an entry its key, of what is wrong the line that a run logs
abbrev pub text_in : List ℕ → ℕ → ℕ → Content → List ℕ
text_in file line at Comment = []
text_in file line at (Preamble text) = given text
text_in file line at (Definition name text) = given text
text_in file line at (Entry kind key) = key
text_in file line at (Field name text) = given text
text_in file line at End = []
text_in file line at (Wrong slip) = wrong_line slip (record { file = file; line = line; at = at })

abbrev pub text_of : List ℕ → Record → List ℕ
text_of file one = text_in file one.line one.start one.content

-- ---- rows

-- the bytes that a record adds to the room of texts: its name, and then its text
abbrev pub texts_of : List ℕ → Record → List ℕ
texts_of file one = name_of one.content ++ text_of file one

-- the row of a record, before which the room has `room` bytes
abbrev pub row_of : List ℕ → ℕ → Record → Row
row_of file room one = record {
  kind = kind_of one.content;
  is_whole = is_whole one.content;
  start = one.start;
  end = one.end;
  line = one.line;
  name_at = room;
  name_len = length (name_of one.content);
  text_at = room + length (name_of one.content);
  text_len = length (text_of file one);
}

-- the rows of records, before which the room has `room` bytes
abbrev pub rows_along : List ℕ → ℕ → List Record → List Row
rows_along file room [] = []
rows_along file room (one ∷ others) = row_of file room one ∷ rows_along file (room + length (texts_of file one)) others

-- ---- what can be read back of rows

-- what is shown of a record: what it is, its name and its text, and where it is
pub record Shown : Type 0 where
  pub kind : ℕ
  pub is_whole : Bool
  pub name : List ℕ
  pub text : List ℕ
  pub start : ℕ
  pub end : ℕ
  pub line : ℕ

-- what is shown of a record of a file
abbrev pub shown : List ℕ → Record → Shown
shown file one = record {
  kind = kind_of one.content;
  is_whole = is_whole one.content;
  name = name_of one.content;
  text = text_of file one;
  start = one.start;
  end = one.end;
  line = one.line;
}

-- the bytes of the room at a place
abbrev pub bytes_at : List ℕ → ℕ → ℕ → List ℕ
bytes_at room at len = take len (drop at room)

-- what a row shows, with its name and its text as they lie in the room
abbrev pub row_shows : List ℕ → Row → Shown
row_shows room row = record {
  kind = row.kind;
  is_whole = row.is_whole;
  name = bytes_at room row.name_at row.name_len;
  text = bytes_at room row.text_at row.text_len;
  start = row.start;
  end = row.end;
  line = row.line;
}
