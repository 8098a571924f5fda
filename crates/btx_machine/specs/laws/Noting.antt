-- What a log and a notebook have of the same lines.
use Rattle.std.specs.Prelude.{◌≡◌, ℕ, ◌⊎◌, List, [], ◌∷◌, ◌++◌, Option, None, Some}
use Rattle.std.specs.Io.KnownBytes.{Appends}
use Rattle.std.specs.List.{flat_map}
use Rattle.btx_text.specs.language.LogLines.{Line}
use Rattle.btx_machine.specs.language.Saying.{ended_line}

-- a notebook was handed these lines, one after another. One that shows what it was handed may stop to show it, and then shows nothing any more
abbrev pub AddsLines : Option (List Line) → Option (List Line) → List Line → Type 0
AddsLines None None lines = Unit {0}
AddsLines None (Some ys) lines = ⊥
AddsLines (Some xs) None lines = Unit {0}
AddsLines (Some xs) (Some ys) lines = ys ≡ xs ++ lines

-- lines as a log has them, each with its line feed
abbrev pub printed : List Line → List ℕ
printed lines = flat_map (λ line. ended_line line.text) lines

-- what a notebook shows before and after
abbrev pub NotedChange : Type 0
NotedChange = Option (List Line) × Option (List Line)

-- what a log has received before and after
abbrev pub LogChange : Type 0
LogChange = Option (List ℕ) × Option (List ℕ)

-- the log received each line that was noted, in order, and nothing else
pub record Printed (noted : NotedChange) (log : LogChange) : Type 0 where
  pub lines : List Line
  pub are_noted : AddsLines noted.0 noted.1 lines
  pub are_logged : Appends log.0 log.1 (printed lines)

-- the same but for the last line that was noted, of which the log received a prefix
pub record BrokenOff (noted : NotedChange) (log : LogChange) : Type 0 where
  pub lines : List Line
  pub last : Line
  pub front : List ℕ
  pub rest : List ℕ
  pub are_noted : AddsLines noted.0 noted.1 (lines ++ last ∷ [])
  pub last_is : ended_line last.text ≡ front ++ rest
  pub are_logged : Appends log.0 log.1 (printed lines ++ front)

-- one or the other
abbrev pub PrintedOrBrokenOff : NotedChange → LogChange → Type 0
PrintedOrBrokenOff noted log = Printed noted log ⊎ BrokenOff noted log
