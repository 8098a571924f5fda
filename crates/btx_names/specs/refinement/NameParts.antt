-- The last byte of a name that isn't passed over, as proofs name it.
use Rattle.std.specs.Prelude.{ℕ, ◌||◌, Bool, not, List, Option, find, reverse, nat_lt, if◌then◌else◌}
use Rattle.btx_text.specs.language.Class.{is_white, is_sep}
use Rattle.btx_names.specs.language.Tokens.{NameToken}
use Rattle.btx_names.specs.language.VonTokens.{is_von}
use Rattle.btx_names.specs.language.NameParts.{is_hyphen, before_first, von_end, last_start}

-- the index of the first token of von in a name without commas: the first von token; where there is no von, the first token of Last
abbrev pub von_start : List NameToken → ℕ
von_start tokens = if nat_lt 0 (von_end tokens) then before_first (λ (token : NameToken). is_von token.text) tokens else last_start tokens

-- a token of a name is von, by its text
abbrev pub is_von_token : NameToken → Bool
is_von_token token = is_von token.text

-- the token isn't joined to the next one by a `-`
abbrev pub is_apart : NameToken → Bool
is_apart token = not (is_hyphen token.joint)

-- a byte that is neither whitespace nor `~` nor `-`
abbrev pub is_ink : ℕ → Bool
is_ink b = not (is_white b || is_sep b)

-- the last byte of a text that is neither whitespace nor `~` nor `-`
abbrev pub last_ink : List ℕ → Option ℕ
last_ink text = find is_ink (reverse text)
