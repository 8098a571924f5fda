-- The lines of a log. A warning and an error begin with their word, and where they are met in a file their place follows; the form of
-- both is this project's own but for `Warning--`, which is the original's.
use Rattle.std.specs.Prelude.{ℕ, Bool, true, false, List, [], ◌++◌, codes, decimal}
use Rattle.btx_text.specs.declared.log_line.LineKind.{LineKind}
use Rattle.btx_text.specs.declared.log_line.LineKind.TheVariants.{Plain, Warning, Error}

-- a line, without its end
pub record Line : Type 0 where
  pub text : List ℕ
  pub kind : LineKind

-- the line is a warning
abbrev pub is_warning : LineKind → Bool
is_warning Warning = true
is_warning _ = false

-- the line is an error
abbrev pub is_error : LineKind → Bool
is_error Error = true
is_error _ = false

-- the word with which a line of the log begins, by what it is: nothing where it is neither a warning nor an error
unfoldable pub mark_of : LineKind → List ℕ
mark_of Plain = []
mark_of Warning = codes "Warning--"
mark_of Error = codes "Error--"

-- the end of a message that is about a line of a file, counted from 1: `--line 7 of file refs.bib`
unfoldable pub place_text : ℕ → List ℕ → List ℕ
place_text line file = codes "--line " ++ decimal line ++ codes " of file " ++ file

-- a log line of this kind: the prefix of its kind, and its text, which ends with its place if it has one
abbrev pub message : LineKind → List ℕ → Line
message kind text = record { text = mark_of kind ++ text; kind = kind }
