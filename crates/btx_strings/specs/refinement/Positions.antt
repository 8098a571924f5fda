-- Names of parts of the definitions of positions.
use Rattle.std.specs.Prelude.{ℕ, ◌==◌, not, List, find, reverse, Option}
use Rattle.btx_text.specs.laws.Bytes.{close_brace}

-- `.`
abbrev pub period : ℕ
period = 46

-- the last byte of a string that is no `}`, if there is one
abbrev pub last_mark : List ℕ → Option ℕ
last_mark string = find (λ b. not (b == close_brace)) (reverse string)
