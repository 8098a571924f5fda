-- The words of a body.
use Rattle.std.specs.Prelude.{ℕ, zero, suc, ◌+◌, ◌-◌, ◌*◌, ◌^◌, ◌==◌, ℤ, pos, negsuc, nat_lt, fold, Option, None, Some, Bool, true, false, List, [], ◌∷◌, take}
use Rattle.std.specs.Prelude.{drop, if◌then◌else◌}
use Rattle.std.specs.Str.{byte}
use Rattle.btx_bst.specs.language.Places.{Place, ink, further}
use Rattle.btx_bst.specs.language.Fronts.{word_len, quote_len, digits_len, is_word_end}
use Rattle.btx_bst.specs.language.Complaints.{Complaint, BadInteger, TextAfter}

-- a word of a body: a brace, a string, an integer, a name after a `'` (`Quoted`), or a name. Or it is a literal with a fault, which is left out
-- (`Faulty`), a `"` whose string doesn't end (`Unended`), or the end of the file (`Ended`)
pub data BodyWord : Type 0 where
  Open : BodyWord
  Close : BodyWord
  String : (text : List ℕ) → BodyWord
  Integer : (value : ℤ) → BodyWord
  Quoted : (name : List ℕ) → BodyWord
  Name : (name : List ℕ) → BodyWord
  Faulty : (complaint : Complaint) → BodyWord
  Unended : BodyWord
  Ended : BodyWord

-- a word, and what is left of the line after it
pub record Front : Type 0 where
  pub word : BodyWord
  pub rest : List ℕ

-- a word at the front of a line, with the rest of the line
abbrev pub front : BodyWord → List ℕ → Front
front word rest = record { word = word; rest = rest }

-- the string whose text is `text`, up to the next quote; the third argument is what is left of the line, which begins with that quote. Without a quote
-- the string has no end, and `line` is left. After the quote whitespace, `}`, `%` or the end of the line must follow. Else the string is an error, and
-- everything up to one of these is skipped
abbrev pub string_ended : List ℕ → List ℕ → List ℕ → Front
string_ended line text [] = front Unended line
string_ended line text (quote ∷ rest) =
    if is_word_end rest then front (String text) rest else front (Faulty TextAfter) (drop (word_len rest) rest)

-- the string that begins after a quote
abbrev pub string_at : List ℕ → Front
string_at line = string_ended line (take (quote_len line) line) (drop (quote_len line) line)

-- the number that the decimal digits stand for; 0 without digits
unfoldable pub digits_value : List ℕ → ℕ
digits_value digits = fold (λ (n d : ℕ). n * 10 + (d - 48)) 0 digits

-- a number with its sign, if it fits into 32 bits
unfoldable pub signed : Bool → ℕ → Option ℤ
signed false n = if nat_lt n (2 ^ 31) then Some (pos n) else None
signed true zero = Some (pos 0)
signed true (suc n) = if nat_lt n (2 ^ 31) then Some (negsuc n) else None

-- an integer and the rest of the line after its digits; it is an error if it isn't one of 32 bits or if text follows directly
abbrev pub integer_before : List ℕ → List ℕ → Option ℤ → Front
integer_before line rest None = front (Faulty BadInteger) (drop (word_len line) line)
integer_before line rest (Some value) = if is_word_end rest then front (Integer value) rest else front (Faulty TextAfter) (drop (word_len rest) rest)

-- the integer after a `#`, given the text after that (`line`), whether a minus stands there, the text after the minus (`rest`), and with how many
-- digits this begins. Without a digit it is an error
abbrev pub integer_front : List ℕ → Bool → List ℕ → ℕ → Front
integer_front line minus rest zero = front (Faulty BadInteger) (drop (word_len line) line)
integer_front line minus rest (suc n) = integer_before line (drop (suc n) rest) (signed minus (digits_value (take (suc n) rest)))

-- the integer that begins after a `#`: a minus may stand before its digits
unfoldable pub integer_at : List ℕ → Front
integer_at [] = front (Faulty BadInteger) []
integer_at (b ∷ bs) = if b == byte "-" then integer_front (b ∷ bs) true bs (digits_len bs) else integer_front (b ∷ bs) false (b ∷ bs) (digits_len (b ∷ bs))

-- the word at the front of a line whose first byte `b` is no whitespace and no `%`. A name or a quoted name goes up to whitespace, a `}`, a `%` or the
-- line's end, whatever its bytes: `a{b` is one name
unfoldable pub word_front : ℕ → List ℕ → Front
word_front b bs =
    if b == byte "{" then front Open bs
    else if b == byte "}" then front Close bs
    else if b == byte "\"" then string_at bs
    else if b == byte "#" then integer_at bs
    else if b == byte "'" then front (Quoted (take (word_len bs) bs)) (drop (word_len bs) bs)
    else front (Name (b ∷ take (word_len bs) bs)) (drop (word_len bs) bs)

-- a word and the place after it
pub record Met : Type 0 where
  pub word : BodyWord
  pub place : Place

-- a word that was met, of the word and the place after it
abbrev pub met : BodyWord → Place → Met
met word place = record { word = word; place = place }

-- the word at a place that isn't in whitespace or a comment; there is none at the end of the text
abbrev pub met_in : Place → List ℕ → Met
met_in place [] = met Ended place
met_in place (b ∷ bs) = met (word_front b bs).word (further place (word_front b bs).rest)

-- the word of a body that stands next, after whitespace and comments, and the place after it
abbrev pub met_at : Place → Met
met_at place = met_in (ink place) (ink place).line
