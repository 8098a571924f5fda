-- The greatest lengths of strings and files, in bytes (this project's own rule; the original has sizes that are set when it is built).
use Rattle.std.specs.Prelude.{ℕ, nat_lt, length, Bool, List}
use Rattle.btx_text.specs.declared.limits.TheConstants.{GREATEST_FILE, GREATEST_STRING}

-- the greatest number of bytes of a string: of a literal, a variable's value, a field, a `@string`, the preamble, or the result of a built-in
-- function
abbrev pub greatest_string : ℕ
greatest_string = GREATEST_STRING

-- the greatest number of bytes of a file that is read
abbrev pub greatest_file : ℕ
greatest_file = GREATEST_FILE

-- the text has more bytes than a file may have
abbrev pub is_too_long : List ℕ → Bool
is_too_long text = nat_lt greatest_file (length text)
