-- A number with one more digit, as proofs name it.
use Rattle.std.specs.Prelude.{ℕ, ◌+◌, ◌-◌, ◌*◌, List, drop, if◌then◌else◌}
use Rattle.btx_bst.specs.language.Fronts.{word_len, is_word_end}
use Rattle.btx_bst.specs.language.Complaints.{TextAfter}
use Rattle.btx_bst.specs.language.Words.{Front, front, String, Faulty}

-- a string, and the rest of the line after its closing quote
abbrev pub string_before : List ℕ → List ℕ → Front
string_before text rest = if is_word_end rest then front (String text) rest else front (Faulty TextAfter) (drop (word_len rest) rest)

-- a number with one more decimal digit after it
abbrev pub with_digit : ℕ → ℕ → ℕ
with_digit n d = n * 10 + (d - 48)
