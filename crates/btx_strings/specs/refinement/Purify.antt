-- What is left of a group, as the code goes by groups and by the runs of bytes before them that stay.
use Rattle.std.specs.Prelude.{ℕ, Bool, ◌==◌, ◌||◌, nat_eq, nat_le, List, [], ◌∷◌, if◌then◌else◌}
use Rattle.std.specs.List.{flat_map, starts_with}
use Rattle.std.specs.Char.{is_ascii_digit, is_ascii_lowercase, is_ascii_uppercase}
use Rattle.btx_strings.specs.language.Controls.{glyphs_of}
use Rattle.btx_strings.specs.language.Purify.{purified_glyph, purified_class}
use Rattle.btx_text.specs.language.Class.{class_of}
use Rattle.btx_text.specs.laws.Bytes.{open_brace, backslash}

-- what `purify$` leaves of a byte outside special characters
abbrev pub purified_byte : ℕ → List ℕ
purified_byte b = purified_class (class_of b) b

-- a byte that `purify$` leaves as it is outside special characters: a space, a letter or a digit
abbrev pub stays : ℕ → Bool
stays b = is_ascii_lowercase b || b == 32 || is_ascii_uppercase b || is_ascii_digit b || nat_le 128 b

-- what `purify$` leaves of a group in braces at depth 0, or of another byte. If it is no special character, each of its bytes leaves what it does outside of
-- groups
abbrev pub purified_group : List ℕ → List ℕ
purified_group group =
    if starts_with nat_eq group (open_brace ∷ backslash ∷ []) then flat_map purified_glyph (glyphs_of group)
    else flat_map purified_byte group
