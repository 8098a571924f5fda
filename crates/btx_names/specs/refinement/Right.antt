-- A name in a format, where nothing is wrong with them.
use Rattle.std.specs.Prelude.{◌≡◌, ◌≤◌, ℕ, ℤ, List, length}
use Rattle.btx_text.specs.declared.element_kind.TextMode.{TextMode}
use Rattle.btx_text.specs.language.Limits.{greatest_string}
use Rattle.btx_strings.specs.language.Answers.{no_complaints}
use Rattle.btx_names.specs.language.Answered.{format_name_complaints, format_name_text, one_name_complaints, one_name_text}

-- nothing is wrong with a name and a format, and this is its text
pub record IsWritten (mode : TextMode) (name format text : List ℕ) : Type 0 where
  pub text_is : text ≡ one_name_text mode name format
  pub right : one_name_complaints name format ≡ no_complaints

-- nothing is wrong with the name of a number in a list and a format, and this is its text, which is no longer than a string may be
pub record IsText (mode : TextMode) (names : List ℕ) (number : ℤ) (format text : List ℕ) : Type 0 where
  pub text_is : text ≡ format_name_text mode names number format
  pub right : format_name_complaints names number format ≡ no_complaints
  pub within : length text ≤ greatest_string
