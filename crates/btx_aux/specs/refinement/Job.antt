-- Names of parts of a job's definition.
use Rattle.std.specs.Prelude.{ℕ, List, length, Option, not, ◌&&◌, Bool, ◌++◌, is_none, map, codes, option_and_then}
use Rattle.btx_aux.specs.language.Events.{AuxEvent}
use Rattle.btx_aux.specs.language.Job.{cited_by, cited_keys, star_by, bibdata_of, databases_in, bibstyle_of, is_empty, all_of, end_of, notes_of, AuxJob}
use Rattle.btx_aux.specs.language.Job.{first_of, taken_with}
use Rattle.btx_aux.specs.language.Notes.{AuxNote, NoCitations, NoBibdata, NoBibstyle, aux_note_kind, aux_note_text}
use Rattle.btx_text.specs.language.Lists.{only_if}
use Rattle.btx_text.specs.language.LogLines.{message}
use Rattle.btx_aux.specs.language.Grammar.{Piece}

-- the style that the piece of a `\bibstyle` line names, with `.bst`; none without such a line, or if its piece is faulty
abbrev pub style_name_in : Option Piece → Option (List ℕ)
style_name_in piece = option_and_then (λ (piece : Piece). first_of (taken_with (codes ".bst") piece)) piece

-- the key that an event cites, if it cites one
abbrev pub cited : AuxEvent → List (List ℕ)
cited event = cited_by event.word

-- if an event is a citation of `*`: how many keys the events before it list; else none
abbrev pub star_at : List AuxEvent → AuxEvent → List ℕ
star_at earlier event = star_by event.word (length (cited_keys earlier))

-- the databases that the first `\bibdata` line names
abbrev pub databases_of : List AuxEvent → List (List ℕ)
databases_of events = databases_in (bibdata_of events)

-- the style that the first `\bibstyle` line names, if its piece was taken
abbrev pub style_name_of : List AuxEvent → Option (List ℕ)
style_name_of events = style_name_in (bibstyle_of events)

-- what is missing in a whole reading: any key and `*`; a `\bibdata` line, unless `bibdata` is true; a `\bibstyle` line, unless `bibstyle` is true
abbrev pub missing_notes : List (List ℕ) → Option ℕ → Bool → Bool → List AuxNote
missing_notes keys all bibdata bibstyle =
    only_if (is_empty keys && is_none all) NoCitations ++ only_if (not bibdata) NoBibdata ++ only_if (not bibstyle) NoBibstyle

-- the job that the events of its `.aux` files come to
abbrev pub job_of : List AuxEvent → AuxJob
job_of events = record {
  keys = cited_keys events;
  all = all_of events;
  databases = databases_in (bibdata_of events);
  style = style_name_in (bibstyle_of events);
  log = map (λ (note : AuxNote). message (aux_note_kind note) (aux_note_text note)) (notes_of events);
  ending = end_of events;
}
