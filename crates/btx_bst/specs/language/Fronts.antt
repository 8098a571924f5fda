-- Fronts of a line: runs of bytes that pass a test.
use Rattle.std.specs.Prelude.{ℕ, suc, ◌==◌, ◌||◌, not, Bool, true, List, [], ◌∷◌, if◌then◌else◌}
use Rattle.btx_text.specs.language.Class.{is_white, is_name_byte}
use Rattle.std.specs.Char.{is_ascii_digit}
use Rattle.std.specs.Str.{byte}

-- how many bytes stand before the first that passes a test, or all
unfoldable pub len_till : (ℕ → Bool) → List ℕ → ℕ
len_till test [] = 0
len_till test (b ∷ bs) = if test b then 0 else suc (len_till test bs)

-- whitespace, `}` or `%`: what ends a name, a string or an integer in a body
abbrev pub ends_word : ℕ → Bool
ends_word b = is_white b || b == byte "}" || b == byte "%"

-- how many digits a line begins with
abbrev pub digits_len : List ℕ → ℕ
digits_len = len_till (λ b. not (is_ascii_digit b))

-- how many bytes the name has that a line begins with, if it begins with one: a name doesn't begin with a digit
abbrev pub name_len : List ℕ → ℕ
name_len [] = 0
name_len (b ∷ bs) = if is_ascii_digit b then 0 else len_till (λ b. not (is_name_byte b)) (b ∷ bs)

-- how many bytes stand before the end of a word of a body
abbrev pub word_len : List ℕ → ℕ
word_len = len_till ends_word

-- a word of a body may end before a text: whitespace, a `}` or a `%` begins that, or it is empty
abbrev pub is_word_end : List ℕ → Bool
is_word_end [] = true
is_word_end (b ∷ bs) = ends_word b

-- how many bytes stand before the next quote of the line
abbrev pub quote_len : List ℕ → ℕ
quote_len = let quote = byte "\"" in len_till (λ b. b == quote)
