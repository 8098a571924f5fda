-- Names of lengths at the front of a line.
use Rattle.std.specs.Prelude.{ℕ, not, List}
use Rattle.std.specs.Char.{is_ascii_alphabetic}
use Rattle.btx_bst.specs.language.Fronts.{len_till}

-- how many letters a line begins with
abbrev pub letters_len : List ℕ → ℕ
letters_len = len_till (λ b. not (is_ascii_alphabetic b))
