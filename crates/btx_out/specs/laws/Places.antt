-- What a break is, in the places of the text itself.
use Rattle.std.specs.Prelude.{◌≡◌, ℕ, ◌+◌, ◌<◌, ◌≤◌, true, false, List, ◌∷◌, ◌++◌, length, slice_index, All}
use Rattle.btx_text.specs.language.Class.{is_white}

-- a text has no whitespace at the indices from `from` up to, but not including, `end`
abbrev pub HasNoWhitespace : List ℕ → ℕ → ℕ → Type 0
HasNoWhitespace text from end = (i : ℕ) → from ≤ i → i < end → is_white (slice_index text i) ≡ false

-- a break inside the line: no whitespace follows it there, and one byte goes; a head has 3 bytes at least
pub record IsBreakInside (line_length : ℕ) (text head rest : List ℕ) : Type 0 where
  pub white : ℕ
  pub of_white : is_white white ≡ true
  pub whole : text ≡ head ++ white ∷ rest
  pub first : 3 ≤ length head
  pub last : length head ≤ line_length
  pub none_after : HasNoWhitespace text (length head + 1) (line_length + 1)

-- a break past the line: no whitespace stands before it from index 3 on, and its whole run goes
pub record IsBreakPast (line_length : ℕ) (text head rest : List ℕ) : Type 0 where
  pub run : List ℕ
  pub whole : text ≡ head ++ (run ++ rest)
  pub of_white : All (λ b. is_white b ≡ true) run
  pub some : 0 < length run
  pub past : line_length < length head
  pub none_before : HasNoWhitespace text 3 (length head)
  pub ink : 0 < length rest → is_white (slice_index rest 0) ≡ false

-- there is no whitespace at index 3 or later
abbrev pub IsUnbroken : List ℕ → Type 0
IsUnbroken text = HasNoWhitespace text 3 (length text)
