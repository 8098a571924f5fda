-- Names of parts of the events' definitions.
use Rattle.std.specs.Prelude.{ℕ, List, [], ◌∷◌, Option, Bool, if◌then◌else◌}
use Rattle.std.specs.Option.{option_map_or}
use Rattle.btx_aux.specs.language.Events.{AuxEvent, named_by, FileEvents, event_at, said, expanded, opened}
use Rattle.btx_aux.specs.language.Grammar.{Absent, TooLong, NoTop}
use Rattle.btx_aux.specs.declared.reading.TheConstants.{MOST_OPEN}
use Rattle.btx_aux.specs.language.Files.{Files}

-- what follows an `\@input` of the file `name`, given the bytes that the finder has for that: the events of the file, which `reading` gives, or
-- that it is missing
abbrev pub input_events : FileEvents → List AuxEvent → AuxEvent → List ℕ → Option (List ℕ) → List AuxEvent
input_events reading earlier event name text = option_map_or (reading earlier name) text (record event { word = Absent name } ∷ [])

-- the events of an opened file after its opening, given whether it is too long: then just that, and else those of its lines
abbrev pub inside : Bool → Files → FileEvents → List AuxEvent → List ℕ → List ℕ → List AuxEvent
inside long files reading earlier name text = if long then event_at name 0 TooLong ∷ [] else expanded files reading earlier (said name text)

-- the events of the top file and of the files that it opens, given its text; without a text, that it is missing
abbrev pub from_top : Files → List ℕ → Option (List ℕ) → List AuxEvent
from_top files top text = option_map_or (opened files MOST_OPEN [] top) text (event_at top 0 NoTop ∷ [])

-- the name of the file that an event mentions, as a list of one, or of none
abbrev pub file_named : AuxEvent → List (List ℕ)
file_named event = named_by event.file event.word
