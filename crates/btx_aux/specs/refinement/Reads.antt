-- The reading of files, as what is known after it: the events of `Events`, each used at once. These definitions serve the private
-- functions; that they give what the events of a job come to is proved of the public call.
use Rattle.std.specs.Prelude.{◌≡◌, ◌⊎◌, ℕ, zero, suc, ◌-◌, Bool, true, false, List, [], ◌∷◌, ◌++◌, map, fold, Option, None, Some, if◌then◌else◌}
use Rattle.std.specs.List.{IsDistinct}
use Rattle.std.specs.Str.{bytes_eq}
use Rattle.btx_aux.specs.declared.draft.AuxJobBuilder.{AuxJobBuilder}
use Rattle.btx_aux.specs.declared.reading.TheConstants.{MOST_OPEN}
use Rattle.btx_aux.specs.language.Files.{Files}
use Rattle.btx_aux.specs.language.Names.{with_name_once}
use Rattle.btx_aux.specs.refinement.Answers.{EndInAux}
use Rattle.btx_aux.specs.language.Grammar.{Opens, Absent, Full, TooLong, NoTop, is_whole}
use Rattle.btx_aux.specs.language.Events.{AuxEvent, event_at, named_by, asked_of, said}
use Rattle.btx_aux.specs.language.Job.{AuxJob, closing_notes}
use Rattle.btx_aux.specs.refinement.Drafts.{blank, learned}
use Rattle.btx_text.specs.language.Limits.{is_too_long}
use Rattle.btx_aux.specs.refinement.Notes.{aux_note_line}

-- what is known after an event, which counts only where the reading hasn't ended
abbrev pub after : AuxJobBuilder → AuxEvent → AuxJobBuilder
after draft event = if is_whole draft.ending then learned draft event else draft

-- what is known after a file of this name and these bytes
abbrev pub Opening : Type 0
Opening = AuxJobBuilder → List ℕ → List ℕ → AuxJobBuilder

-- what is known after an include of a file at a place
unfoldable pub included : Opening → AuxJobBuilder → List ℕ → ℕ → List ℕ → Option (List ℕ) → AuxJobBuilder
included opening draft file line name None = after draft (event_at file line (Absent name))
included opening draft file line name (Some text) = opening draft name text

-- what is known after the include that a place asks for, if it asks for one
abbrev pub asked_for : Files → Opening → AuxJobBuilder → List ℕ → ℕ → Option (List ℕ) → AuxJobBuilder
asked_for files opening draft file line None = draft
asked_for files opening draft file line (Some name) = included opening draft file line name (files name)

-- what is known after all that is said
unfoldable pub run : Files → Opening → AuxJobBuilder → List AuxEvent → AuxJobBuilder
run files opening draft [] = draft
run files opening draft (event ∷ events) = run files opening (asked_for files opening (after draft event) event.file event.line
    (asked_of draft.files event.word)) events

-- what is known after the inside of an opened file
unfoldable pub within : Bool → Files → Opening → AuxJobBuilder → List ℕ → List ℕ → AuxJobBuilder
within true files opening draft name text = after draft (event_at name 0 TooLong)
within false files opening draft name text = run files opening draft (said name text)

-- what is known after a file, where this number of the 20 files that may be open at once are not open yet
unfoldable pub opened_by : Files → ℕ → Opening
opened_by files zero draft name text = after draft (event_at name 0 Full)
opened_by files (suc room) draft name text = within (is_too_long text) files (opened_by files room)
    (after draft (event_at name 0 (Opens (19 - room)))) name text

-- what is known after the top file
unfoldable pub topped : Files → List ℕ → Option (List ℕ) → AuxJobBuilder
topped files top None = after blank (event_at top 0 NoTop)
topped files top (Some text) = opened_by files MOST_OPEN blank top text

-- what is known, as what the job says, with what is missing in the whole
abbrev pub closed : AuxJobBuilder → AuxJob
closed draft = record {
  keys = draft.keys;
  all = draft.all;
  databases = draft.databases;
  style = draft.style;
  log = draft.log ++ map aux_note_line (closing_notes draft.ending draft.keys draft.all draft.has_bibdata draft.has_bibstyle);
  ending = draft.ending;
}

-- ---- the names that a reading asks for

-- the names that are known grow by those that were asked for: each of these is new and ends in `.aux`
pub record AddsNames (before after names : List (List ℕ)) : Type 0 where
  pub added : after ≡ before ++ names
  pub once : IsDistinct bytes_eq before → IsDistinct bytes_eq after
  pub endings : EndInAux names

-- a file was asked for whose name is known already, and then others
pub record AsksFirst (first : List ℕ) (before after names : List (List ℕ)) : Type 0 where
  pub later : List (List ℕ)
  pub is : names ≡ first ∷ later
  pub adds : AddsNames before after later

-- the names that are known once a file is opened, where this number of further files may be opened: the top file's is new
abbrev pub names_opened : List (List ℕ) → List ℕ → ℕ → List (List ℕ)
names_opened before name room = fold with_name_once before (named_by name (Opens (MOST_OPEN - room)))

-- names were asked for, each none of those that are known, and each ends in `.aux`
pub record AsksNew (known names : List (List ℕ)) : Type 0 where
  pub once : IsDistinct bytes_eq known → IsDistinct bytes_eq (known ++ names)
  pub endings : EndInAux names

-- a file was asked for whose name is known already, and then others
pub record AsksOne (first : List ℕ) (known names : List (List ℕ)) : Type 0 where
  pub later : List (List ℕ)
  pub is : names ≡ first ∷ later
  pub new : AsksNew known later

-- no file was asked for, or one whose name is known already, and then others
abbrev pub AsksOneAtMost : List ℕ → List (List ℕ) → List (List ℕ) → Type 0
AsksOneAtMost first known names = (names ≡ []) ⊎ AsksOne first known names
