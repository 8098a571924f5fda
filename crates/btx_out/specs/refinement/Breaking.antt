-- What isn't whitespace, for those who look for the end of whitespace.
use Rattle.std.specs.Prelude.{ℕ, Bool, not}
use Rattle.btx_text.specs.language.Class.{is_white}

-- a byte that is no whitespace
abbrev pub is_not_white : ℕ → Bool
is_not_white b = not (is_white b)
