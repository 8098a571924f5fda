-- The lines of the log that the reading of the `.aux` files gives: the files that were found, and what is wrong. The words follow
-- those of the original. All that is wrong is an error, none a warning.
use Rattle.std.specs.Prelude.{ℕ, List, ◌++◌, codes, decimal}
use Rattle.btx_text.specs.declared.log_line.LineKind.{LineKind}
use Rattle.btx_text.specs.declared.log_line.LineKind.TheVariants.{Plain, Error}
use Rattle.btx_text.specs.language.LogLines.{place_text}
use Rattle.btx_aux.specs.declared.command.Slip.{Slip}
use Rattle.btx_aux.specs.declared.command.Slip.TheVariants.{WhiteSpace, Unclosed, StuffAfter}

-- what is wrong at a place of an `.aux` file; each is an error of the log
pub data AuxComplaint : Type 0 where
  Slipped : (slip : Slip) → AuxComplaint
  AnotherBibdata : AuxComplaint
  AnotherBibstyle : AuxComplaint
  CaseMismatch : (earlier : List ℕ) (key : List ℕ) → AuxComplaint
  SecondStar : AuxComplaint
  WrongExtension : (name : List ℕ) → AuxComplaint
  AlreadyMet : (name : List ℕ) → AuxComplaint
  NotOpened : (name : List ℕ) → AuxComplaint
  RepeatedDatabase : (name : List ℕ) → AuxComplaint

-- the text of a complaint, without `Error--` before it and without its place; `Slipped` is an error in the argument of a line
unfoldable pub aux_complaint_text : AuxComplaint → List ℕ
aux_complaint_text (Slipped WhiteSpace) = codes "White space in argument"
aux_complaint_text (Slipped Unclosed) = codes "No \"}\""
aux_complaint_text (Slipped StuffAfter) = codes "Stuff after \"}\""
aux_complaint_text AnotherBibdata = codes "Illegal, another \\bibdata command"
aux_complaint_text AnotherBibstyle = codes "Illegal, another \\bibstyle command"
aux_complaint_text (CaseMismatch earlier key) = codes "Case mismatch error between cite keys " ++ earlier ++ codes " and " ++ key
aux_complaint_text SecondStar = codes "Multiple inclusions of entire database"
aux_complaint_text (WrongExtension name) = name ++ codes " has a wrong extension"
aux_complaint_text (AlreadyMet name) = codes "Already encountered file " ++ name
aux_complaint_text (NotOpened name) = codes "I couldn't open auxiliary file " ++ name
aux_complaint_text (RepeatedDatabase name) = codes "This database file appears more than once: " ++ name

-- what a line of the log is about: a file was found, something is wrong at a place, or something is missing in the whole. (Other types have a case
-- `Wrong` of their own, as the events of a database do: each time it means that something is wrong)
pub data AuxNote : Type 0 where
  TopFile : (name : List ℕ) → AuxNote
  LevelFile : (level : ℕ) (name : List ℕ) → AuxNote
  Wrong : (complaint : AuxComplaint) (line : ℕ) (file : List ℕ) → AuxNote
  NoCitations : AuxNote
  NoBibdata : AuxNote
  NoBibstyle : AuxNote

-- the text of a note, as the log has it after the word for an error
unfoldable pub aux_note_text : AuxNote → List ℕ
aux_note_text (TopFile name) = codes "The top-level auxiliary file: " ++ name
aux_note_text (LevelFile level name) = codes "A level-" ++ decimal level ++ codes " auxiliary file: " ++ name
aux_note_text (Wrong complaint line file) = aux_complaint_text complaint ++ place_text line file
aux_note_text NoCitations = codes "I found no \\citation commands"
aux_note_text NoBibdata = codes "I found no \\bibdata command"
aux_note_text NoBibstyle = codes "I found no \\bibstyle command"

-- what a note is: an error, unless it is about a file that was found
unfoldable pub aux_note_kind : AuxNote → LineKind
aux_note_kind (TopFile name) = Plain
aux_note_kind (LevelFile level name) = Plain
aux_note_kind _ = Error
