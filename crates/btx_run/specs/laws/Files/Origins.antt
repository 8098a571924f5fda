-- What each line is about that reading a job's files logs.
use Rattle.std.specs.Prelude.{◌≡◌, ◌⊎◌, ℕ, List, Option, Some, Contains, codes}
use Rattle.std.specs.Option.{option_map_or}
use Rattle.btx_text.specs.language.LogLines.{Line, message}
use Rattle.btx_aux.specs.language.Events.{job_events}
use Rattle.btx_aux.specs.language.Files.{Files}
use Rattle.btx_aux.specs.language.Job.{AuxJob, notes_of}
use Rattle.btx_aux.specs.language.Names.{with_ending}
use Rattle.btx_aux.specs.language.Notes.{AuxNote, aux_note_kind, aux_note_text}
use Rattle.btx_core.specs.language.Files.Found.{NamedFile, file_at}
use Rattle.btx_core.specs.language.Files.Lines.{no_style_line, style_line}
use Rattle.btx_core.specs.refinement.Files.Readings.{job_named, reading_of}
use Rattle.btx_run.specs.refinement.Files.Readings.{database_logged}

-- the line of one of these notes on the `.aux` files, which has the file and the line that it is about
pub record IsOfNote (notes : List AuxNote) (line : Line) : Type 0 where
  pub note : AuxNote
  pub is_one : Contains notes note
  pub is_line : line ≡ message (aux_note_kind note) (aux_note_text note)

-- the log line of a style, by whether it is there
abbrev pub style_logged : List ℕ → Option NamedFile → Line
style_logged name found = option_map_or (λ (file : NamedFile). style_line name) found (no_style_line name)

-- the line of the style that the `.aux` files name
pub record IsOfStyle (files : Files) (style : Option (List ℕ)) (line : Line) : Type 0 where
  pub name : List ℕ
  pub is_named : style ≡ Some name
  pub is_line : line ≡ style_logged name (file_at files name)

-- the line of one of these databases, with some number if it is there
pub record IsOfDatabase (files : Files) (names : List (List ℕ)) (line : Line) : Type 0 where
  pub name : List ℕ
  pub is_one : Contains names name
  pub number : ℕ
  pub is_line : line ≡ database_logged number name (file_at files name)

-- each line of a reading is that of a note on its `.aux` files, of the style or of a database that these name
abbrev pub LinesAreOfFiles : Type 0
LinesAreOfFiles = (files : Files) (name : List ℕ) (line : Line) → Contains (reading_of files name).lines line →
    IsOfNote (notes_of (job_events files (with_ending (codes ".aux") name))) line
    ⊎ IsOfStyle files (job_named files name).style line
    ⊎ IsOfDatabase files (job_named files name).databases line
