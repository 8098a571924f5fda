-- What is kept of the lines that a run notes.
use Rattle.std.specs.Prelude.{◌≡◌, ℕ, ◌+◌, ◌≤◌, List, [], ◌∷◌, ◌++◌, Option, None, Some, IfSome, map, length, min, take}
use Rattle.btx_text.specs.language.LogLines.{Line}
use Rattle.btx_machine.specs.declared.report.LogCounts.{LogCounts}
use Rattle.btx_machine.specs.laws.Noting.{printed}
use Rattle.btx_core.specs.language.Files.Counts.{counts_of}
use Rattle.btx_c.specs.declared.noted.Events.{Events}
use Rattle.btx_c.specs.declared.noted.Noted.{Noted}
use Rattle.btx_c.specs.declared.noted.Wanted.{Wanted}
use Rattle.btx_c.specs.declared.event.BtxEvent.{BtxEvent}
use Rattle.btx_c.specs.declared.place.BtxPlace.{BtxPlace}
use Rattle.btx_c.specs.Events.{ArePlaced, Divided, mark, marks}

-- where a log ends that has these lines after its first `at` bytes
abbrev pub end_from : ℕ → List Line → ℕ
end_from at [] = at
end_from at (line ∷ lines) = end_from (at + length line.text + 1) lines

-- what is kept of these lines: the events of the first ones, how many there are, and where the next one stands
pub record AreOf (lines : List Line) (events : Events) : Type 0 where
  pub count_is : events.count ≡ length lines
  pub next_is : events.next ≡ end_from 0 lines
  pub are_first : length events.first.items ≤ length lines
  pub are_theirs : map mark events.first.items ≡ take (length events.first.items) (marks lines)

-- what was kept of some lines, if it was kept, is then kept of these and one more
abbrev pub KeepsUp : Option Events → Option Events → Line → Type 0
KeepsUp before after line = (lines : List Line) → IfSome before (AreOf lines) → IfSome after (AreOf (lines ++ line ∷ []))

-- the same, of as many lines as there may be events
pub record AreAll (lines : List Line) (most : ℕ) (events : Events) : Type 0 where
  pub are : AreOf lines events
  pub as_many : length events.first.items ≡ min events.count most

-- the log is some lines, which are counted so, and these are their events
pub record AreInLog (log : List ℕ) (counts : LogCounts) (most : ℕ) (events : Events) : Type 0 where
  pub lines : List Line
  pub log_is : log ≡ printed lines
  pub counts_are : counts ≡ counts_of lines
  pub are_all : AreAll lines most events

-- an event and a place are kept of each of these lines, or of as many as are wanted
pub record AreAllNoted (lines : List Line) (wanted : Wanted) (noted : Noted) : Type 0 where
  pub events_are : AreAll lines wanted.events noted.events
  pub places_are : length noted.places.items ≡ min noted.events.count wanted.places

-- the log is some lines, which are counted so, and these are their events; and there are as many places
pub record AreNotedInLog (log : List ℕ) (counts : LogCounts) (wanted : Wanted) (noted : Noted) : Type 0 where
  pub events_are : AreInLog log counts wanted.events noted.events
  pub places_are : length noted.places.items ≡ min noted.events.count wanted.places

-- there are events and places of the log's lines
abbrev pub HasNoted : List ℕ → LogCounts → Wanted → Option Noted → Type 0
HasNoted log counts wanted None = ⊥
HasNoted log counts wanted (Some noted) = AreNotedInLog log counts wanted noted

-- events are put into a room: where they are those of a log's lines, they divide it
abbrev pub PutsEvents : Events → ℕ → List BtxEvent × List BtxEvent → Type 0
PutsEvents events len room = (log : List ℕ) (counts : LogCounts) → AreInLog log counts (length room.0) events → Divided log counts len room

-- events and places are put into their rooms: where they are those of a log's lines, the events divide it, and there are as many places
abbrev pub PutsNoted : Option Noted → ℕ → List BtxEvent × List BtxEvent → List BtxPlace × List BtxPlace → Type 0
PutsNoted noted len events places =
    (log : List ℕ) (counts : LogCounts) → HasNoted log counts (record { events = length events.0; places = length places.0 }) noted
    → Divided log counts len events × ArePlaced len places
