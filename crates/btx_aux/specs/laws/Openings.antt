-- Which files are opened: laws above the list of events, which say it of the whole list. A file's level is the number of files that were
-- open before it was opened: 0 for the top file, and for an included one, one more than that of the file with its `\@input` line.
use Rattle.std.specs.Prelude.{◌≡◌, ℕ, ◌+◌, nat_lt, not, ◌&&◌, Bool, false, List, [], ◌∷◌, ◌++◌, map, Option, None, Some, is_some, if◌then◌else◌, codes}
use Rattle.std.specs.List.{flat_map, IsDistinct}
use Rattle.std.specs.Map.{lookup}
use Rattle.std.specs.Option.{option_map_or}
use Rattle.std.specs.Str.{bytes_eq}
use Rattle.btx_aux.specs.language.Files.{Files}
use Rattle.btx_aux.specs.language.Names.{has_ending, is_same_key}
use Rattle.btx_aux.specs.language.Grammar.{Taken, Cut, EventKind, Cites, Databases, Styles, Includes, Opens, Absent, Full, TooLong, NoTop}
use Rattle.btx_aux.specs.language.Events.{AuxEvent, files_named, job_events}
use Rattle.btx_aux.specs.language.Job.{job_of_files}
use Rattle.btx_text.specs.language.Lists.{is_among}

-- the level at which a file is opened, where something opens one
abbrev pub levels_by : EventKind → List ℕ
levels_by (Opens level) = level ∷ []
levels_by (Cites piece) = []
levels_by (Databases pieces) = []
levels_by (Styles piece) = []
levels_by (Includes piece) = []
levels_by (Absent name) = []
levels_by Full = []
levels_by TooLong = []
levels_by NoTop = []

-- the file that an event opens, with its level
abbrev pub opening_of : AuxEvent → List (List ℕ × ℕ)
opening_of event = map (λ (level : ℕ). (event.file, level)) (levels_by event.word)

-- the files that are opened, each with its level, in their order
abbrev pub openings : List AuxEvent → List (List ℕ × ℕ)
openings events = flat_map opening_of events

-- the names of the files that are opened, in their order
abbrev pub files_opened : List AuxEvent → List (List ℕ)
files_opened events = map (λ (opening : List ℕ × ℕ). opening.0) (openings events)

-- how many files are open while a line of this file is read: one more than when it was opened
abbrev pub files_open_at : List AuxEvent → List ℕ → ℕ
files_open_at events file = option_map_or (λ (level : ℕ). level + 1) (lookup (bytes_eq file) (openings events)) 0

-- the word is an `\@input` of this name
abbrev pub includes : EventKind → List ℕ → Bool
includes (Includes (Taken name)) asked = bytes_eq name asked
includes (Includes (Cut slip)) asked = false
includes (Cites piece) asked = false
includes (Databases pieces) asked = false
includes (Styles piece) asked = false
includes (Opens level) asked = false
includes (Absent name) asked = false
includes Full asked = false
includes TooLong asked = false
includes NoTop asked = false

-- an event is an `\@input` of this file and opens it: its name ends in `.aux`, nothing earlier names it, it is there, and fewer than
-- 20 files are open
abbrev pub opens : Files → List AuxEvent → AuxEvent → List ℕ → Bool
opens files earlier event name =
    includes event.word name && has_ending (codes ".aux") name && not (is_among (files_named earlier) name)
    && is_some (files name) && nat_lt (files_open_at earlier event.file) 20

-- the level at which the first of some events opens this file, if it does
abbrev pub opened_first : List AuxEvent → List ℕ → Option ℕ
opened_first [] name = None
opened_first (event ∷ events) name = lookup (bytes_eq name) (opening_of event)

-- the first event opens the top file, if it is there
abbrev pub TopOpensFirst : Type 0
TopOpensFirst = (files : Files) (top name : List ℕ) →
    opened_first (job_events files top) name ≡ (if bytes_eq name top && is_some (files top) then Some 0 else None)

-- after any event a file is opened exactly if the event is an `\@input` of it and the four conditions hold, and at the level that
-- is the number of open files
abbrev pub OpensByConditions : Type 0
OpensByConditions = (files : Files) (top : List ℕ) (earlier later : List AuxEvent) (event : AuxEvent) (name : List ℕ) →
    job_events files top ≡ earlier ++ event ∷ later →
    opened_first later name ≡ (if opens files earlier event name then Some (files_open_at earlier event.file) else None)

-- no file is opened twice
abbrev pub NoFileTwice : Type 0
NoFileTwice = (files : Files) (top : List ℕ) → IsDistinct bytes_eq (files_opened (job_events files top))

-- no two keys are equal without case
abbrev pub NoKeyTwice : Type 0
NoKeyTwice = (files : Files) (top : List ℕ) → IsDistinct is_same_key (job_of_files files top).keys
