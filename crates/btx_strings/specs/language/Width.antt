-- The width of a string in hundredths of a point, by the original's table of widths (btxhak, section 5.3, at `width$`).
use Rattle.std.specs.Prelude.{ℕ, true, List, [], ◌∷◌, ◌++◌, replicate, codes, sum_by, if◌then◌else◌, slice_index}
use Rattle.std.specs.Str.{bytes_eq}
use Rattle.btx_text.specs.declared.element_kind.Kind.{Kind}
use Rattle.btx_text.specs.declared.element_kind.Kind.TheVariants.{Special}
use Rattle.btx_text.specs.declared.element_kind.TextMode.TheVariants.{Bytes}
use Rattle.btx_text.specs.language.Elements.{Element, elements_of}
use Rattle.btx_strings.specs.language.Controls.{Glyph, Control, Plain, glyphs_of, is_brace, letters_of, without_white}

-- the widths of the bytes from 0 to 126, in hundredths of a point; bytes past the table have the width 0
abbrev pub widths : List ℕ
widths =
    replicate 32 0
    -- from the space to `/`
    ++ 278 ∷ 278 ∷ 500 ∷ 833 ∷ 500 ∷ 833 ∷ 778 ∷ 278 ∷ 389 ∷ 389 ∷ 500 ∷ 778 ∷ 278 ∷ 333 ∷ 278 ∷ 500 ∷ []
    -- from `0` to `9`
    ++ replicate 10 500
    -- from `:` to `@`
    ++ 278 ∷ 278 ∷ 278 ∷ 778 ∷ 472 ∷ 472 ∷ 778 ∷ []
    -- from `A` to `Z`
    ++ 750 ∷ 708 ∷ 722 ∷ 764 ∷ 681 ∷ 653 ∷ 785 ∷ 750 ∷ 361 ∷ 514 ∷ 778 ∷ 625 ∷ 917 ∷ []
    ++ 750 ∷ 778 ∷ 681 ∷ 778 ∷ 736 ∷ 556 ∷ 722 ∷ 750 ∷ 750 ∷ 1028 ∷ 750 ∷ 750 ∷ 611 ∷ []
    -- from `[` to the grave accent
    ++ 278 ∷ 500 ∷ 278 ∷ 500 ∷ 278 ∷ 278 ∷ []
    -- from `a` to `z`
    ++ 500 ∷ 556 ∷ 444 ∷ 556 ∷ 444 ∷ 306 ∷ 500 ∷ 556 ∷ 278 ∷ 306 ∷ 528 ∷ 278 ∷ 833 ∷ []
    ++ 556 ∷ 500 ∷ 556 ∷ 528 ∷ 392 ∷ 394 ∷ 389 ∷ 556 ∷ 528 ∷ 722 ∷ 528 ∷ 528 ∷ 444 ∷ []
    -- from `{` to `~`
    ++ 500 ∷ 1000 ∷ 500 ∷ 500 ∷ []

-- the width of a byte, by the table
abbrev pub byte_width : ℕ → ℕ
byte_width b = slice_index widths b

-- the width of a first letter, if there is one
abbrev pub first_width : List ℕ → ℕ
first_width [] = 0
first_width (b ∷ bs) = byte_width b

-- the width of a control sequence: five foreign ones have a width of their own; any other has that of the first letter that it stands for, or 0
unfoldable pub control_width : List ℕ → ℕ
control_width name =
    if bytes_eq name (codes "ss") then 500
    else if bytes_eq name (codes "ae") then 722
    else if bytes_eq name (codes "oe") then 778
    else if bytes_eq name (codes "AE") then 903
    else if bytes_eq name (codes "OE") then 1014
    else first_width (letters_of name)

-- the width of a glyph of a special character: a brace has none
abbrev pub glyph_width : Glyph → ℕ
glyph_width (Control name) = control_width name
glyph_width (Plain b) = if is_brace b then 0 else byte_width b

-- the width of an element, by its kind and its text: of a special character that of its glyphs, without the whitespace directly after a control
-- sequence; outside special characters every byte counts, braces too
abbrev pub width_as : Kind → List ℕ → ℕ
width_as Special text = sum_by glyph_width (without_white (λ _. true) [] (glyphs_of text))
width_as _ text = sum_by byte_width text

-- `width$`: the sum of the widths of a string's elements. It is read as bytes in either mode: bytes from 128 up have no width
abbrev pub width_of : List ℕ → ℕ
width_of string = sum_by (λ (part : Element). width_as part.kind part.text) (elements_of Bytes string)
