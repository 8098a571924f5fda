-- The bytes before which words, names and numbers end: the tests of which laws speak.
use Rattle.std.specs.Prelude.{ℕ, not, Bool, ◌||◌, ◌==◌}
use Rattle.std.specs.Char.{is_ascii_digit, is_ascii_uppercase, is_ascii_lowercase}
use Rattle.btx_text.specs.language.Class.{is_name_byte}
use Rattle.btx_text.specs.laws.Bytes.{double_quote, line_feed}

-- a byte that is no digit: an integer ends before it
abbrev pub is_no_digit : ℕ → Bool
is_no_digit b = not (is_ascii_digit b)

-- a byte that is no letter: the word of a command ends before it
abbrev pub is_no_letter : ℕ → Bool
is_no_letter b = not (is_ascii_uppercase b || is_ascii_lowercase b)

-- a byte that no name has: a name ends before it
abbrev pub ends_name : ℕ → Bool
ends_name b = not (is_name_byte b)

-- `"`
abbrev pub is_quote : ℕ → Bool
is_quote b = b == double_quote

-- a line feed
abbrev pub is_line_feed : ℕ → Bool
is_line_feed b = b == line_feed
