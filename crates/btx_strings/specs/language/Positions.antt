-- The functions on positions of bytes (btxhak, section 5.3, at `add.period$` and `substring$`).
use Rattle.std.specs.Prelude.{ℕ, zero, suc, ◌-◌, ◌==◌, ◌||◌, Bool, false, not, ℤ, pos, negsuc, List, [], ◌∷◌, ◌++◌, length, take, drop, find, reverse, Option}
use Rattle.std.specs.Prelude.{Some, None, if◌then◌else◌}
use Rattle.std.specs.Str.{byte}

-- ---- `add.period$`

-- the byte is there, and is a period, a `?` or a `!`
abbrev pub is_ended : Option ℕ → Bool
is_ended None = false
is_ended (Some b) = b == byte "." || b == byte "?" || b == byte "!"

-- `add.period$`: the string with a `.` after it. It stays as it is if its last byte that is no `}` is `.`, `?` or `!`, and if it is empty.
abbrev pub add_period_of : List ℕ → List ℕ
add_period_of [] = []
add_period_of (b ∷ bs) =
    if is_ended (find (λ b. not (b == byte "}")) (reverse (b ∷ bs))) then b ∷ bs else (b ∷ bs) ++ byte "." ∷ []

-- ---- `substring$`

-- the first `n` bytes from the `start`-th byte on, which is counted from 1: fewer if the string ends before, none if it has no such byte
abbrev pub from_left : List ℕ → ℕ → ℕ → List ℕ
from_left string start n = take n (drop (start - 1) string)

-- the last `n` bytes up to and including the `start`-th byte from the right, which is counted from 1: fewer if the string begins after the first
-- of them, none if it has no such byte
abbrev pub from_right : List ℕ → ℕ → ℕ → List ℕ
from_right string start n =
    let front = take (length string - (start - 1)) string in
    drop (length front - n) front

-- `substring$` of a string, a start and a length, in bytes. The byte at a positive start, counted from the left from 1, is the piece's first; the
-- byte at a negative start, counted from the right from -1, is its last. The piece has as many bytes as the length says, or as there are on that
-- side; it is empty if the length is below 1, the start is 0, or no byte stands at the start.
abbrev pub substring_of : List ℕ → ℤ → ℤ → List ℕ
substring_of string start (negsuc n) = []
substring_of string (pos zero) (pos n) = []
substring_of string (pos (suc start)) (pos n) = from_left string (suc start) n
substring_of string (negsuc start) (pos n) = from_right string (suc start) n
