-- Bytes by the names of their characters, for laws and for what the code does.
use Rattle.std.specs.Prelude.{ℕ}

-- the end of a line
abbrev pub line_feed : ℕ
line_feed = 10

-- `"`
abbrev pub double_quote : ℕ
double_quote = 34

-- `#`
abbrev pub hash : ℕ
hash = 35

-- `%`
abbrev pub percent : ℕ
percent = 37

-- `'`
abbrev pub single_quote : ℕ
single_quote = 39

-- `(`
abbrev pub open_parenthesis : ℕ
open_parenthesis = 40

-- `,`
abbrev pub comma : ℕ
comma = 44

-- `=`
abbrev pub equals_sign : ℕ
equals_sign = 61

-- `@`
abbrev pub at_sign : ℕ
at_sign = 64

-- the backslash
abbrev pub backslash : ℕ
backslash = 92

-- `{`
abbrev pub open_brace : ℕ
open_brace = 123

-- `}`
abbrev pub close_brace : ℕ
close_brace = 125
