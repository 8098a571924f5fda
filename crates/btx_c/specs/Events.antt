-- The events of a run: where each line of its log stands, and of which kind it is.
use Rattle.std.specs.Prelude.{◌≡◌, ℕ, ◌+◌, List, [], ◌∷◌, ◌++◌, map, length, min, take, drop}
use Rattle.btx_text.specs.declared.log_line.LineKind.{LineKind}
use Rattle.btx_text.specs.declared.log_line.LineKind.TheVariants.{Plain, Warning, Error}
use Rattle.btx_text.specs.language.LogLines.{Line}
use Rattle.btx_machine.specs.declared.report.LogCounts.{LogCounts}
use Rattle.btx_machine.specs.laws.Noting.{printed}
use Rattle.btx_core.specs.language.Files.Counts.{counts_of}
use Rattle.btx_c.specs.declared.event.BtxEvent.{BtxEvent}
use Rattle.btx_c.specs.declared.place.BtxPlace.{BtxPlace}

-- what is promised of an event: where its line stands in the log, how long it is without its line feed, and the number of its kind
pub record Mark : Type 0 where
  pub at : ℕ
  pub len : ℕ
  pub kind : ℕ

-- what an event says of its line
abbrev pub mark : BtxEvent → Mark
mark event = record { at = event.at; len = event.len; kind = event.kind }

-- the number of a kind
unfoldable pub kind_number : LineKind → ℕ
kind_number Plain = 0
kind_number Warning = 1
kind_number Error = 2

-- the marks of these lines, of which the first one stands at `at`, and each further one after the line feed of the one before
abbrev pub marks_from : ℕ → List Line → List Mark
marks_from at [] = []
marks_from at (line ∷ lines) =
    record { at = at; len = length line.text; kind = kind_number line.kind } ∷ marks_from (at + length line.text + 1) lines

-- the marks of the lines of a log
abbrev pub marks : List Line → List Mark
marks lines = marks_from 0 lines

-- the log is some lines, each with its line feed, among which there are as many warnings and errors as are counted, and the events divide it into these: `len` says
-- how many there are. The first ones are written, as many as there
-- is room for: each has the mark of its line. The rest of the room stays
pub record Divided (log : List ℕ) (counts : LogCounts) (len : ℕ) (room : List BtxEvent × List BtxEvent) : Type 0 where
  pub lines : List Line
  pub log_is : log ≡ printed lines
  pub counts_are : counts ≡ counts_of lines
  pub len_is : len ≡ length lines
  pub written : List BtxEvent
  pub as_many : length written ≡ min len (length room.0)
  pub are_theirs : map mark written ≡ take (length written) (marks lines)
  pub room_is : room.1 ≡ written ++ drop (length written) room.0

-- memory into which places were put, as many as there is room for; the rest stays
abbrev pub filled_places : List BtxPlace → List BtxPlace → List BtxPlace
filled_places room places = take (length room) places ++ drop (length places) room

-- some places are written, one for each of the first of `len` lines, as many as there is room for. The rest of the room stays
pub record ArePlaced (len : ℕ) (room : List BtxPlace × List BtxPlace) : Type 0 where
  pub written : List BtxPlace
  pub as_many : length written ≡ min len (length room.0)
  pub room_is : room.1 ≡ written ++ drop (length written) room.0
