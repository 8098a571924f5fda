-- What an event adds to what is known so far.
use Rattle.std.specs.Prelude.{ℕ, ◌||◌, Bool, false, List, [], ◌∷◌, ◌++◌, map, fold, length, Option, None, Some, is_some, if◌then◌else◌, codes}
use Rattle.std.specs.Option.{option_or}
use Rattle.btx_aux.specs.declared.draft.AuxJobBuilder.{AuxJobBuilder}
use Rattle.btx_aux.specs.declared.end.End.{End}
use Rattle.btx_aux.specs.declared.end.End.TheVariants as end
use Rattle.btx_aux.specs.language.Names.{with_name_once, with_key, with_ending}
use Rattle.btx_aux.specs.language.Grammar.{Piece, Taken, Cut, EventKind, end_by}
use Rattle.btx_aux.specs.language.Events.{AuxEvent, event_at, asked_of}
use Rattle.btx_text.specs.language.LogLines.{Line}
use Rattle.btx_aux.specs.language.Notes.{AuxComplaint, Slipped, RepeatedDatabase, Wrong, AuxNote}
use Rattle.btx_aux.specs.language.Job.{first_of, star_by, bibdata_by, bibstyle_by, databases_in, notes_by}
use Rattle.btx_text.specs.language.Lists.{only_if, is_among}
use Rattle.btx_aux.specs.refinement.Events.{file_named}
use Rattle.btx_aux.specs.refinement.Job.{cited, style_name_in}
use Rattle.btx_aux.specs.refinement.Notes.{aux_note_line}

-- nothing is known
abbrev pub blank : AuxJobBuilder
blank = record {
  keys = [];
  all = None;
  databases = [];
  has_bibdata = false;
  style = None;
  has_bibstyle = false;
  files = [];
  log = [];
  ending = end.Whole;
}

-- a log with further notes
abbrev pub with_notes : List Line → List AuxNote → List Line
with_notes log [] = log
with_notes log (note ∷ notes) = log ++ aux_note_line note ∷ map aux_note_line notes

-- what was there first, or else what comes now
abbrev pub first_or : Option ℕ → Option ℕ → Option ℕ
first_or None before = before
first_or (Some now) before = option_or before (Some now)

-- the databases after a `\bibdata` line, if there is one now, where there was one before or not
abbrev pub databases_after : Option (List Piece) → Bool → List (List ℕ) → List (List ℕ)
databases_after None had before = before
databases_after (Some pieces) had before = if had then before else databases_in (Some pieces)

-- the style after a `\bibstyle` line, if there is one now, where there was one before or not
abbrev pub style_after : Option Piece → Bool → Option (List ℕ) → Option (List ℕ)
style_after None had before = before
style_after (Some piece) had before = if had then before else option_or (style_name_in (Some piece)) before

-- the end after something that brings one, or none
abbrev pub ending_after : End → End → End
ending_after end.Whole before = before
ending_after end.TooManyOpen before = end.TooManyOpen
ending_after end.TopMissing before = end.TopMissing
ending_after end.FileLimit before = end.FileLimit

-- what is known after a further event
unfoldable pub learned : AuxJobBuilder → AuxEvent → AuxJobBuilder
learned draft event = record {
  keys = fold with_key draft.keys (cited event);
  all = first_or (first_of (star_by event.word (length draft.keys))) draft.all;
  databases = databases_after (first_of (bibdata_by event.word)) draft.has_bibdata draft.databases;
  has_bibdata = is_some (first_of (bibdata_by event.word)) || draft.has_bibdata;
  style = style_after (first_of (bibstyle_by event.word)) draft.has_bibstyle draft.style;
  has_bibstyle = is_some (first_of (bibstyle_by event.word)) || draft.has_bibstyle;
  files = fold with_name_once draft.files (file_named event);
  log = with_notes draft.log (notes_by draft.keys draft.all draft.has_bibdata draft.has_bibstyle draft.files event event.word);
  ending = ending_after (end_by event.word) draft.ending;
}

-- what is known after a line's words
abbrev pub learned_words : List ℕ → ℕ → AuxJobBuilder → List EventKind → AuxJobBuilder
learned_words file line draft [] = draft
learned_words file line draft (word ∷ words) = learned_words file line (learned draft (event_at file line word)) words

-- the file that a line asks for, where these are named already
abbrev pub asked_in : List (List ℕ) → List EventKind → Option (List ℕ)
asked_in files [] = None
asked_in files (word ∷ words) = option_or (asked_of files word) (asked_in files words)

-- a draft with complaints at a place
abbrev pub complaining : List ℕ → ℕ → AuxJobBuilder → List AuxComplaint → AuxJobBuilder
complaining file line draft complaints = record draft { log = with_notes draft.log (map (λ (complaint : AuxComplaint). Wrong complaint line file) complaints) }

-- a draft with a database that a piece names, and what is wrong with it
abbrev pub with_database : List ℕ → ℕ → AuxJobBuilder → List ℕ → AuxJobBuilder
with_database file line draft name =
    let database = with_ending (codes ".bib") name in
    complaining file line (record draft { databases = with_name_once draft.databases database })
    (only_if (is_among draft.databases database) (RepeatedDatabase database))

-- a draft with the databases of some pieces, and what is wrong with them
abbrev pub with_databases : List ℕ → ℕ → AuxJobBuilder → List Piece → AuxJobBuilder
with_databases file line draft [] = draft
with_databases file line draft (Taken name ∷ pieces) = with_databases file line (with_database file line draft name) pieces
with_databases file line draft (Cut slip ∷ pieces) = with_databases file line (complaining file line draft (Slipped slip ∷ [])) pieces
