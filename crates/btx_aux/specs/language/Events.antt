-- The events of a job: all that its `.aux` files say and all that becomes of them, in reading order. An `\@input` line is followed
-- at once by what becomes of its file: the file is opened exactly if its name ends in `.aux`, nothing earlier names that file,
-- the finder's content has it and fewer than 20 files are open; the events of an opened file follow at once.
use Rattle.std.specs.Prelude.{ℕ, zero, suc, ◌+◌, ◌-◌, not, ◌&&◌, List, [], ◌∷◌, ◌++◌, map, Option, None, Some, if◌then◌else◌, codes}
use Rattle.std.specs.List.{flat_map}
use Rattle.btx_aux.specs.declared.reading.TheConstants.{MOST_OPEN}
use Rattle.std.specs.Option.{option_map_or}
use Rattle.btx_text.specs.language.Limits.{is_too_long}
use Rattle.btx_text.specs.language.Lines.{lines_of}
use Rattle.btx_aux.specs.language.Files.{Files}
use Rattle.btx_aux.specs.language.Names.{has_ending, distinct}
use Rattle.btx_aux.specs.language.Grammar.{Taken, EventKind, Includes, Opens, Absent, Full, TooLong, NoTop, words_of, end_by, is_whole}
use Rattle.btx_text.specs.language.Lists.{is_among}

-- an event: what is said or happens (`word`), and its place, which is a file and a line of it, from 1 up, or 0 for the file as a whole
pub record AuxEvent : Type 0 where
  pub file : List ℕ
  pub line : ℕ
  pub word : EventKind

-- the event of `word` at line `line` of the file `file`
abbrev pub event_at : List ℕ → ℕ → EventKind → AuxEvent
event_at file line word = record { file = file; line = line; word = word }

-- the events of the lines of a file, of which the first has line number `number`
abbrev pub said_from : List ℕ → ℕ → List (List ℕ) → List AuxEvent
said_from file number [] = []
said_from file number (line ∷ lines) = map (event_at file number) (words_of line) ++ said_from file (number + 1) lines

-- what the lines of a file say, in order, each with its line number
unfoldable pub said : List ℕ → List ℕ → List AuxEvent
said file text = said_from file 1 (lines_of text)

-- the file name that an event mentions: the top file's when it is opened, or that of an include, if it ends in `.aux`
abbrev pub named_by : List ℕ → EventKind → List (List ℕ)
named_by file (Opens zero) = file ∷ []
named_by file (Includes (Taken name)) = if has_ending (codes ".aux") name then name ∷ [] else []
named_by file _ = []

-- the files that the events name, found or not
abbrev pub files_named : List AuxEvent → List (List ℕ)
files_named events = distinct (flat_map (λ (event : AuxEvent). named_by event.file event.word) events)

-- the file that an event opens: that of an `\@input` line, if its name ends in `.aux` and isn't among `files`, the names met before
abbrev pub asked_of : List (List ℕ) → EventKind → Option (List ℕ)
asked_of files (Includes (Taken name)) = if has_ending (codes ".aux") name && not (is_among files name) then Some name else None
asked_of files _ = None

-- how a file is read: its events, given the events before it, its name and its bytes
abbrev pub FileEvents : Type 0
FileEvents = List AuxEvent → List ℕ → List ℕ → List AuxEvent

-- the events that come between this event and the next one of its file: those of the file that it asks for, or that this is missing; none if it
-- asks for none
abbrev pub followed : Files → FileEvents → List AuxEvent → AuxEvent → Option (List ℕ) → List AuxEvent
followed files reading earlier event None = []
followed files reading earlier event (Some name) = option_map_or (reading earlier name) (files name) (record event { word = Absent name } ∷ [])

-- the events of a file, each followed at once by those of the file that it opens; `earlier` are all events before these
abbrev pub expanded : Files → FileEvents → List AuxEvent → List AuxEvent → List AuxEvent
expanded files reading earlier [] = []
expanded files reading earlier (event ∷ events) =
    let with_event = earlier ++ event ∷ [] in
    let more = followed files reading with_event event (asked_of (files_named earlier) event.word) in
    (event ∷ more) ++ expanded files reading (with_event ++ more) events

-- the events of a file from its opening on, given how many of the 20 files that may be open at once, `MOST_OPEN`, aren't open yet. If there are none,
-- the only event is that too many are open. Else the file is opened, while all but `suc room` of the 20 are open. Then follows, for a
-- file that is too long, only that (`TooLong`), and for any other what its lines say, with the events of the files that they open
abbrev pub opened : Files → ℕ → FileEvents
opened files zero earlier name text = event_at name 0 Full ∷ []
opened files (suc room) earlier name text =
    let opening = event_at name 0 (Opens (MOST_OPEN - 1 - room)) in
    opening
    ∷ (if is_too_long text then event_at name 0 TooLong ∷ []
    else expanded files (opened files room) (earlier ++ opening ∷ []) (said name text))

-- the events up to the first that ends the reading
abbrev pub until_end : List AuxEvent → List AuxEvent
until_end [] = []
until_end (event ∷ events) = if is_whole (end_by event.word) then event ∷ until_end events else event ∷ []

-- the events of a job whose top file is `top`: those of that file and of the files that it opens, or that it is missing
unfoldable pub job_events : Files → List ℕ → List AuxEvent
job_events files top =
    until_end (option_map_or (opened files MOST_OPEN [] top)
    (files top) (event_at top 0 NoTop ∷ []))
