-- Whitespace that is made one space while the bytes are read.
use Rattle.std.specs.Prelude.{◌≡◌, ◌<◌, ◌≤◌, ℕ, ◌==◌, ◌&&◌, ◌||◌, ◌-◌, not, Bool, true, false, cond, List, [], ◌∷◌, length, slice_index, take, if◌then◌else◌}
use Rattle.std.specs.Int.{w64, trailing_zeros}
use Rattle.btx_bib.specs.declared.grammar.byte_sets.ByteSet.TheVariants.{Gap}
use Rattle.btx_bib.specs.declared.grammar.value_ends.Ends.{Ends}
use Rattle.btx_bib.specs.declared.grammar.value_ends.Ends.TheVariants.{Kept, Trimmed}
use Rattle.btx_bib.specs.declared.grammar.byte_sets.Enclosure.{Enclosure}
use Rattle.btx_bib.specs.language.Grammar.ByteSets.{enclosed_len, is_gap, past}
use Rattle.btx_bib.specs.refinement.Grammar.ByteSets.{is_word_byte}

-- the space, which stands for each run of whitespace in a value
abbrev pub space : ℕ
space = 32

-- bytes after a byte that was whitespace or not: the first byte of a run becomes the space
abbrev pub squeezed_after : Bool → List ℕ → List ℕ
squeezed_after white [] = []
squeezed_after white (b ∷ bs) = cond (is_gap b) (cond white (squeezed_after true bs) (space ∷ squeezed_after true bs)) (b ∷ squeezed_after false bs)

-- the last byte was whitespace
abbrev pub white_after : Bool → List ℕ → Bool
white_after white [] = white
white_after white (b ∷ bs) = white_after (is_gap b) bs

-- ---- texts that are values as they stand

-- no whitespace but single spaces, after a byte that was whitespace or not
unfoldable pub is_squeezed : Bool → List ℕ → Bool
is_squeezed white [] = true
is_squeezed white (b ∷ bs) = if is_gap b then (b == space && not white) && is_squeezed true bs else is_squeezed false bs

-- a byte leaves what is before it squeezed, whose last byte was whitespace or not
abbrev pub stays_squeezed : Bool → ℕ → Bool
stays_squeezed white b = not (is_gap b) || (b == space && not white)

-- whitespace stands before a place, or nothing
abbrev pub is_behind_white : List ℕ → ℕ → Bool
is_behind_white text place = place == 0 || is_gap (slice_index text (place - 1))

-- a byte that leaves depth and squeezing alone: a word byte, or a space after a byte that isn't whitespace
abbrev pub is_plain_byte : ℕ → ℕ → Bool
is_plain_byte before b = is_word_byte b || (b == space && not (is_gap before))

-- the bytes from a place up to another one are such
abbrev pub ArePlainBytes : List ℕ → ℕ → ℕ → Type 0
ArePlainBytes text from to = (place : ℕ) → from ≤ place → place < to → is_plain_byte (slice_index text (place - 1)) (slice_index text place) ≡ true

-- squeezing leaves the bytes from a place up to another one as they are
abbrev pub AreKeptBytes : List ℕ → ℕ → ℕ → Type 0
AreKeptBytes text from to = (place : ℕ) → from ≤ place → place < to → stays_squeezed (is_gap (slice_index text (place - 1))) (slice_index text place) ≡ true

-- how many of the 16 lanes of a block come before the first whose bit is set
abbrev pub lanes_before : ℕ → ℕ
lanes_before bits = if bits == 0 then 16 else trailing_zeros w64 bits

-- what is enclosed is of this length, and squeezed, and doesn't begin with whitespace
abbrev pub IsSqueezedLen : Enclosure → List ℕ → ℕ → Type 0
IsSqueezedLen enclosure text len = (len ≡ enclosed_len enclosure 0 text) × (is_squeezed true (take len text) ≡ true)

-- the last byte is whitespace; there is none in an empty text
abbrev pub ends_in_gap : List ℕ → Bool
ends_in_gap text = is_gap (slice_index text (length text - 1))

-- the text is squeezed, and trimmed where it is a field's
abbrev pub stands : Ends → List ℕ → Bool
stands Kept text = is_squeezed false text
stands Trimmed text = is_squeezed true text && not (ends_in_gap text)

-- one byte of whitespace at the end goes
abbrev pub without_last_gap : List ℕ → List ℕ
without_last_gap text = if ends_in_gap text then take (length text - 1) text else text

-- so does the whitespace at the beginning
abbrev pub without_gaps : List ℕ → List ℕ
without_gaps text = without_last_gap (past Gap text)
