-- The classes of bytes. Alpha is `A-Z`, `a-z` and the bytes from 128 up, which have no case, as in the original with its usual tables;
-- separators are `~` and `-` (btxhak, section 5.3, at `purify$`); whitespace is space, tab and, this project's own, carriage return.
use Rattle.std.specs.Prelude.{ℕ, ◌==◌, ◌||◌, ◌&&◌, nat_le, Bool, not, if◌then◌else◌}
use Rattle.btx_text.specs.declared.byte_class.Class.{Class}
use Rattle.btx_text.specs.declared.byte_class.Class.TheVariants.{White, Alpha, Digit, Sep, Other}
use Rattle.std.specs.Char.{is_ascii_uppercase, is_ascii_lowercase, is_ascii_digit}
use Rattle.std.specs.Str.{byte}

-- space, tab and carriage return (to the original a carriage return ends a line)
abbrev pub is_white : ℕ → Bool
is_white b = b == byte " " || b == byte "\t" || b == byte "\r"

-- a letter `A-Z` or `a-z`, or a byte from 128 up
abbrev pub is_alpha : ℕ → Bool
is_alpha b = is_ascii_uppercase b || is_ascii_lowercase b || nat_le 128 b

-- `~` and `-`
abbrev pub is_sep : ℕ → Bool
is_sep b = b == byte "~" || b == byte "-"

-- a byte that can stand in a name, in styles and in databases: from `!` up, which is the first after the space, and none of `" # % ' ( ) , = { }`
abbrev pub is_name_byte : ℕ → Bool
is_name_byte b =
    nat_le (byte "!") b
    && not (b == byte "\"" || b == byte "#" || b == byte "%" || b == byte "'" || b == byte "(" || b == byte ")"
    || b == byte "," || b == byte "=" || b == byte "{" || b == byte "}")

-- a byte that a name begins with, in styles and in databases: no digit
abbrev pub begins_name : ℕ → Bool
begins_name b = is_name_byte b && not (is_ascii_digit b)

-- the one class of byte `b`: the first of the tests above that it passes says it, and a byte that passes none is `Other`
unfoldable pub class_of : ℕ → Class
class_of b = if is_white b then White else if is_alpha b then Alpha else if is_ascii_digit b then Digit else if is_sep b then Sep else Other
