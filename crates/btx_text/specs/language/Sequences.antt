-- The sequences of UTF-8 that are one character of more than one byte (this project's own rule; the table is Unicode's, "Well-Formed
-- UTF-8 Byte Sequences"). An overlong form, a surrogate and a number past 10FFFF are no sequence.
use Rattle.std.specs.Prelude.{ℕ, ◌==◌, ◌&&◌, Bool, false, List, [], ◌∷◌, length, take, if◌then◌else◌, slice_index}
use Rattle.std.specs.List.{list_all}
use Rattle.std.specs.Int.{is_in_range}

-- a continuation byte of UTF-8, from 80 to BF
abbrev pub is_further : ℕ → Bool
is_further = is_in_range 0x80 0xBF

-- the number of bytes of the UTF-8 sequence that begins with byte `first`, from 2 up; 0 if no sequence begins with it
unfoldable pub sequence_size : ℕ → ℕ
sequence_size first =
    if is_in_range 0xC2 0xDF first then 2
    else if is_in_range 0xE0 0xEF first then 3
    else if is_in_range 0xF0 0xF4 first then 4 else 0

-- the second byte of a sequence is allowed after the first: for the first bytes E0, ED, F0 and F4 only part of the continuation bytes are
unfoldable pub second_fits : ℕ → ℕ → Bool
second_fits first second =
    if first == 0xE0 then is_in_range 0xA0 0xBF second
    else if first == 0xED then is_in_range 0x80 0x9F second
    else if first == 0xF0 then is_in_range 0x90 0xBF second
    else if first == 0xF4 then is_in_range 0x80 0x8F second else is_further second

-- the text is one well-formed UTF-8 sequence of two bytes or more: its length is the one that its first byte says, its second byte is allowed
-- after the first, and all further ones are continuation bytes
unfoldable pub is_sequence : List ℕ → Bool
is_sequence [] = false
is_sequence (first ∷ []) = false
is_sequence (first ∷ second ∷ others) =
    length (first ∷ second ∷ others) == sequence_size first && second_fits first second && list_all is_further others

-- a text begins with a well-formed sequence
unfoldable pub begins_sequence : List ℕ → Bool
begins_sequence rest = is_sequence (take (sequence_size (slice_index rest 0)) rest)
