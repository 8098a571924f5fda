-- The classes of bytes by their tests.
use Rattle.std.specs.Prelude.{ℕ, ◌||◌, Bool, not}
use Rattle.btx_text.specs.declared.byte_class.Class.{Class}
use Rattle.btx_text.specs.declared.byte_class.Class.TheVariants.{White, Alpha, Digit, Sep, Other}
use Rattle.btx_text.specs.language.Class.{is_white, is_alpha, is_sep}
use Rattle.std.specs.Char.{is_ascii_digit}

-- byte `b` is of the class: it passes the test of that class, or, for `Other`, none of the four tests
abbrev pub is_of_class : Class → ℕ → Bool
is_of_class White b = is_white b
is_of_class Alpha b = is_alpha b
is_of_class Digit b = is_ascii_digit b
is_of_class Sep b = is_sep b
is_of_class Other b = not (is_white b || is_alpha b || is_ascii_digit b || is_sep b)
