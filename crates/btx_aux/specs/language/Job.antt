-- What the events of a job come to: keys, the place of `*`, databases, the style, the log and the end. Each is a filter of the list
-- of events, where an event is judged by those before it (of `*` btxdoc speaks in section 2, at `\nocite{*}`).
use Rattle.std.specs.Prelude.{ℕ, zero, suc, not, ◌&&◌, Bool, true, false, List, [], ◌∷◌, ◌++◌, map, fold, length, Option, None, Some, is_some, is_none}
use Rattle.std.specs.Prelude.{if◌then◌else◌, codes, option_and_then}
use Rattle.std.specs.List.{flat_map}
use Rattle.std.specs.Str.{bytes_eq}
use Rattle.std.specs.Option.{option_map_or}
use Rattle.btx_aux.specs.declared.end.End.{End}
use Rattle.btx_aux.specs.declared.end.End.TheVariants as end
use Rattle.btx_aux.specs.language.Files.{Files}
use Rattle.btx_aux.specs.language.Names.{has_ending, with_ending, with_name_once, distinct, listed_as, with_key}
use Rattle.btx_aux.specs.language.Grammar.{Piece, Taken, Cut, EventKind, Cites, Databases, Styles, Includes, Opens, Absent, end_by, is_whole}
use Rattle.btx_aux.specs.language.Events.{AuxEvent, files_named, job_events}
use Rattle.btx_text.specs.language.LogLines.{Line, message}
use Rattle.btx_aux.specs.language.Notes.{AuxComplaint, Slipped, AnotherBibdata, AnotherBibstyle, CaseMismatch, SecondStar, WrongExtension, AlreadyMet}
use Rattle.btx_aux.specs.language.Notes.{NotOpened, RepeatedDatabase, AuxNote, TopFile, LevelFile, Wrong, NoCitations, NoBibdata, NoBibstyle, aux_note_kind}
use Rattle.btx_aux.specs.language.Notes.{aux_note_text}
use Rattle.btx_text.specs.language.Lists.{only_if, is_among}

-- ---- reading along the events

-- for each event, in order, what `judge` makes of it and of the events before it, all in one list
abbrev pub gathered : {T : Type 0} → (List AuxEvent → AuxEvent → List T) → List AuxEvent → List AuxEvent → List T
gathered judge earlier [] = []
gathered judge earlier (event ∷ events) = judge earlier event ++ gathered judge (earlier ++ event ∷ []) events

-- the first element of a list, if it has one
abbrev pub first_of : {T : Type 0} → List T → Option T
first_of [] = None
first_of (x ∷ xs) = Some x

-- ---- keys

-- the key that stands for all entries, `*`
abbrev pub is_star : List ℕ → Bool
is_star key = bytes_eq key (codes "*")

-- the key of a piece of a `\citation`, unless the piece is `*` or faulty; nothing else has one
abbrev pub cited_by : EventKind → List (List ℕ)
cited_by (Cites (Taken key)) = if is_star key then [] else key ∷ []
cited_by _ = []

-- the keys: a key is listed if no earlier listed key equals it without case
abbrev pub cited_keys : List AuxEvent → List (List ℕ)
cited_keys events = fold with_key [] (flat_map (λ (event : AuxEvent). cited_by event.word) events)

-- if an event is a citation of `*`: the number `count` of keys listed before it, as a list of one; else none
abbrev pub star_by : EventKind → ℕ → List ℕ
star_by (Cites (Taken key)) count = if is_star key then count ∷ [] else []
star_by _ count = []

-- where `*` stands, if it is cited: how many keys the events before the first `*` list
abbrev pub all_of : List AuxEvent → Option ℕ
all_of events =
    let star_at : List AuxEvent → AuxEvent → List ℕ = λ earlier event.
    star_by event.word (length (cited_keys earlier)) in
    first_of (gathered star_at [] events)

-- ---- databases and the style

-- the pieces of a `\bibdata` line; nothing else has them
abbrev pub bibdata_by : EventKind → List (List Piece)
bibdata_by (Databases pieces) = pieces ∷ []
bibdata_by _ = []

-- the pieces of the first `\bibdata` line, faulty or not
abbrev pub bibdata_of : List AuxEvent → Option (List Piece)
bibdata_of events = first_of (flat_map (λ (event : AuxEvent). bibdata_by event.word) events)

-- the file name in a piece, with `ending` appended unless it ends so; none if the piece is faulty
abbrev pub taken_with : List ℕ → Piece → List (List ℕ)
taken_with ending (Taken name) = with_ending ending name ∷ []
taken_with ending (Cut slip) = []

-- the databases that the pieces of a `\bibdata` line name, each once, with `.bib`; none without such a line
abbrev pub databases_in : Option (List Piece) → List (List ℕ)
databases_in None = []
databases_in (Some pieces) = distinct (flat_map (taken_with (codes ".bib")) pieces)

-- the piece of a `\bibstyle` line; nothing else has one
abbrev pub bibstyle_by : EventKind → List Piece
bibstyle_by (Styles piece) = piece ∷ []
bibstyle_by _ = []

-- the piece of the first `\bibstyle` line, faulty or not
abbrev pub bibstyle_of : List AuxEvent → Option Piece
bibstyle_of events = first_of (flat_map (λ (event : AuxEvent). bibstyle_by event.word) events)

-- ---- the log

-- what is wrong with the pieces of the first `\bibdata` line: a faulty piece, or a database that is named again. `databases` are those that its
-- earlier pieces name
abbrev pub database_complaints : List (List ℕ) → List Piece → List AuxComplaint
database_complaints databases [] = []
database_complaints databases (Taken name ∷ pieces) =
    let database = with_ending (codes ".bib") name in
    only_if (is_among databases database) (RepeatedDatabase database) ++ database_complaints (with_name_once databases database) pieces
database_complaints databases (Cut slip ∷ pieces) = Slipped slip ∷ database_complaints databases pieces

-- the error in a piece, if the piece is faulty
abbrev pub slip_complaints : Piece → List AuxComplaint
slip_complaints (Taken name) = []
slip_complaints (Cut slip) = Slipped slip ∷ []

-- what is wrong with an event, given what the events before it come to: the keys, the place of `*`, whether there were a `\bibdata` and a `\bibstyle`
-- line, and the file names. Each of these is wrong: an error in a piece; a second `*`; a key that is listed in another spelling (`earlier`); a second
-- line of its kind; a database that is named already; an `\@input` of another ending than `.aux`, or of a file that is named already; and a file that isn't
-- there
abbrev pub event_complaints : List (List ℕ) → Option ℕ → Bool → Bool → List (List ℕ) → EventKind → List AuxComplaint
event_complaints keys all bibdata bibstyle files (Cites (Taken key)) =
    if is_star key then only_if (is_some all) SecondStar
    else option_map_or (λ (earlier : List ℕ). only_if (not (bytes_eq earlier key)) (CaseMismatch earlier key)) (listed_as keys key) []
event_complaints keys all bibdata bibstyle files (Cites (Cut slip)) = Slipped slip ∷ []
event_complaints keys all bibdata bibstyle files (Databases pieces) = if bibdata then AnotherBibdata ∷ [] else database_complaints [] pieces
event_complaints keys all bibdata bibstyle files (Styles piece) = if bibstyle then AnotherBibstyle ∷ [] else slip_complaints piece
event_complaints keys all bibdata bibstyle files (Includes (Taken name)) =
    if has_ending (codes ".aux") name then only_if (is_among files name) (AlreadyMet name) else WrongExtension name ∷ []
event_complaints keys all bibdata bibstyle files (Includes (Cut slip)) = Slipped slip ∷ []
event_complaints keys all bibdata bibstyle files (Absent name) = NotOpened name ∷ []
event_complaints keys all bibdata bibstyle files _ = []

-- the notes of an event: that a file is opened, or what is wrong, each with the event's file and line
abbrev pub notes_by : List (List ℕ) → Option ℕ → Bool → Bool → List (List ℕ) → AuxEvent → EventKind → List AuxNote
notes_by keys all bibdata bibstyle files event (Opens zero) = TopFile event.file ∷ []
notes_by keys all bibdata bibstyle files event (Opens (suc level)) = LevelFile (suc level) event.file ∷ []
notes_by keys all bibdata bibstyle files event word =
    map (λ (complaint : AuxComplaint). Wrong complaint event.line event.file)
    (event_complaints keys all bibdata bibstyle files word)

-- the notes of an event, given the events before it
abbrev pub notes_at : List AuxEvent → AuxEvent → List AuxNote
notes_at earlier event =
    notes_by (cited_keys earlier) (all_of earlier)
    (is_some (bibdata_of earlier)) (is_some (bibstyle_of earlier))
    (files_named earlier) event event.word

-- ---- the end

-- how the reading ends: as the first event says that ends it, else whole
abbrev pub end_of : List AuxEvent → End
end_of [] = end.Whole
end_of (event ∷ events) = if is_whole (end_by event.word) then end_of events else end_by event.word

-- the list of keys is empty
abbrev pub is_empty : List (List ℕ) → Bool
is_empty [] = true
is_empty (key ∷ keys) = false

-- the notes at the end. After a whole reading they say what is missing: citations, if no key is listed and no `*` was cited; a `\bibdata` line, unless
-- `bibdata` is true; a `\bibstyle` line, unless `bibstyle` is true. After any other end there are none
abbrev pub closing_notes : End → List (List ℕ) → Option ℕ → Bool → Bool → List AuxNote
closing_notes end.Whole keys all bibdata bibstyle =
    only_if (is_empty keys && is_none all) NoCitations ++ only_if (not bibdata) NoBibdata ++ only_if (not bibstyle) NoBibstyle
closing_notes _ keys all bibdata bibstyle = []

-- all notes: of each event in turn, and then at the end
abbrev pub notes_of : List AuxEvent → List AuxNote
notes_of events =
    gathered notes_at [] events
    ++ closing_notes (end_of events) (cited_keys events) (all_of events)
    (is_some (bibdata_of events)) (is_some (bibstyle_of events))

-- ---- the job

-- what the `.aux` files of a job say: the cite keys in order; how many of them stand before `*`, if it is cited (`all`); the files of the
-- databases; that of the style, if one was taken; the lines of the log; and how the reading ended
pub record AuxJob : Type 0 where
  pub keys : List (List ℕ)
  pub all : Option ℕ
  pub databases : List (List ℕ)
  pub style : Option (List ℕ)
  pub log : List Line
  pub ending : End

-- the job whose top file is `top`, read from `files`. The databases are those that the first `\bibdata` line names. The style is the one that the first
-- `\bibstyle` line names, with `.bst`; there is none without such a line, or if its piece is faulty
unfoldable pub job_of_files : Files → List ℕ → AuxJob
job_of_files files top = let events = job_events files top in record {
  keys = cited_keys events;
  all = all_of events;
  databases = databases_in (bibdata_of events);
  style = option_and_then
      (λ (piece : Piece). first_of (taken_with (codes ".bst") piece))
      (bibstyle_of events);
  log = map
      (λ (note : AuxNote). message (aux_note_kind note) (aux_note_text note))
      (notes_of events);
  ending = end_of events;
}
