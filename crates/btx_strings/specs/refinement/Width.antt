-- The width of a special character and of an element, as the code's clauses have it.
use Rattle.std.specs.Prelude.{ℕ, true, List, [], sum_by}
use Rattle.btx_strings.specs.language.Controls.{glyphs_of, without_white}
use Rattle.btx_strings.specs.language.Width.{glyph_width, width_as}
use Rattle.btx_text.specs.language.Elements.{Element}

-- the width of a special character: that of its glyphs, without the whitespace directly after a control sequence
abbrev pub special_width : List ℕ → ℕ
special_width text = sum_by glyph_width (without_white (λ _. true) [] (glyphs_of text))

-- the width of an element of a string
abbrev pub part_width : Element → ℕ
part_width part = width_as part.kind part.text
