-- The lines of the log that a style's execution gives. Their texts are this project's own, but for `Warning--`, which is the original's (btxhak,
-- section 5.3, at `warning$`).
use Rattle.std.specs.Prelude.{ℕ, Bool, true, false, List, [], ◌++◌, Option, None, Some, codes, decimal, if◌then◌else◌}
use Rattle.std.specs.Fmt.{signed_decimal}
use Rattle.btx_text.specs.declared.log_line.LineKind.{LineKind}
use Rattle.btx_text.specs.declared.log_line.LineKind.TheVariants.{Plain, Warning, Error}
use Rattle.btx_text.specs.language.LogLines.{Line, message}
use Rattle.btx_bst.specs.language.Names.{name_of}
use Rattle.btx_bst.specs.language.Style.{Style}
use Rattle.btx_stack.specs.declared.literal.Literal.{Literal}
use Rattle.btx_stack.specs.declared.literal.Literal.TheVariants as literal
use Rattle.btx_step.specs.declared.literal.OperandKind.TheVariants as wanted
use Rattle.btx_step.specs.declared.said.Note.{Note}
use Rattle.btx_step.specs.declared.said.Note.TheVariants as note

-- ---- the parts of a line

-- a literal as messages, `top$` and `stack$` show it
unfoldable pub form_of : Style → Literal → List ℕ
form_of style (literal.Integer n) = signed_decimal n
form_of style (literal.Text text) = codes "\"" ++ text ++ codes "\""
form_of style (literal.Function f) = codes "'" ++ name_of style.names f
form_of style literal.Missing = codes "missing field"

-- where a message is met: the name of what is executed, and the key of the current entry if there is one
unfoldable pub place_of : List ℕ → Option (List ℕ) → List ℕ
place_of executed None = codes " while executing " ++ executed
place_of executed (Some key) = codes " while executing " ++ executed ++ codes " for entry " ++ key

-- ---- the lines

-- the text of a log line, without `Warning--` or `Error--` before it and without its place. `WrongKind` is about a literal that isn't of the kind
-- that a function wanted, and `NotAscii` about an integer that `int.to.chr$` can't make a character of
unfoldable pub note_text : Style → Note → List ℕ
note_text style note.EmptyStack = codes "You can't pop an empty literal stack"
note_text style (note.WrongKind v wanted.Integer) = form_of style v ++ codes " is not an integer"
note_text style (note.WrongKind v wanted.Text) = form_of style v ++ codes " is not a string"
note_text style (note.WrongKind v wanted.Function) = form_of style v ++ codes " is not a function"
note_text style (note.WrongKind v wanted.TextOrMissing) = form_of style v ++ codes " is not a string or missing field"
note_text style note.Incomparable = codes "= needs two integers or two strings"
note_text style note.Overflow = codes "Integer overflow"
note_text style (note.NotAssignable f) = codes "You can't assign to " ++ name_of style.names f
note_text style note.NoEntry = codes "You can't mess with entries here"
note_text style (note.NotAscii n) = signed_decimal n ++ codes " isn't an ASCII code"
note_text style (note.NotOneCharacter text) = codes "\"" ++ text ++ codes "\" isn't a single character"
note_text style (note.NoConversion text) = codes "\"" ++ text ++ codes "\" is an illegal case-conversion string"
note_text style (note.NoSuchName n names) = codes "There is no name number " ++ signed_decimal n ++ codes " in \"" ++ names ++ codes "\""
note_text style (note.FinalComma n names) = codes "Name " ++ signed_decimal n ++ codes " in \"" ++ names ++ codes "\" has a comma at the end"
note_text style (note.TooManyCommas n names) = codes "Too many commas in name " ++ signed_decimal n ++ codes " of \"" ++ names ++ codes "\""
note_text style (note.IllegalFormat format) = codes "The format string \"" ++ format ++ codes "\" is illegal"
note_text style note.LeftOver = codes "The literal stack isn't empty"
note_text style (note.Cut size most) = codes "string of " ++ decimal size ++ codes " bytes cut to " ++ decimal most
note_text style (note.Warning text) = text
note_text style (note.Shown v) = form_of style v

-- what a line is: a string that is cut and a style's own warning are warnings, a literal that is shown is neither, all else are errors
unfoldable pub note_kind : Note → LineKind
note_kind (note.Cut size most) = Warning
note_kind (note.Warning text) = Warning
note_kind (note.Shown v) = Plain
note_kind note.EmptyStack = Error
note_kind (note.WrongKind v wanted) = Error
note_kind note.Incomparable = Error
note_kind note.Overflow = Error
note_kind (note.NotAssignable f) = Error
note_kind note.NoEntry = Error
note_kind (note.NotAscii n) = Error
note_kind (note.NotOneCharacter text) = Error
note_kind (note.NoConversion text) = Error
note_kind (note.NoSuchName n names) = Error
note_kind (note.FinalComma n names) = Error
note_kind (note.TooManyCommas n names) = Error
note_kind (note.IllegalFormat format) = Error
note_kind note.LeftOver = Error

-- a place follows a message, but not a style's own warning or a literal that is shown
unfoldable pub has_place : Note → Bool
has_place (note.Warning text) = false
has_place (note.Shown v) = false
has_place _ = true

-- the log line of a note that is met while `executed` is executed, in the entry of this key if there is one. A message that has a place ends with
-- it: with the name of what is executed, and the key of the entry
unfoldable pub note_line : Style → List ℕ → Option (List ℕ) → Note → Line
note_line style executed key note = message (note_kind note) (note_text style note ++ (if has_place note then place_of executed key else []))
