-- A string in another case (btxhak, section 5.3, at `change.case$`). Only `A-Z` and `a-z` have a case (this project's own rule).
use Rattle.std.specs.Prelude.{ℕ, ◌==◌, ◌&&◌, Bool, true, false, List, [], ◌∷◌, ◌++◌, map, codes, Option, Some, None, if◌then◌else◌}
use Rattle.std.specs.List.{flat_map}
use Rattle.std.specs.Str.{bytes_eq, byte}
use Rattle.std.specs.Char.{to_ascii_lowercase, to_ascii_uppercase}
use Rattle.std.specs.Option.{option_map_or}
use Rattle.btx_text.specs.language.Class.{is_white}
use Rattle.btx_text.specs.declared.element_kind.Kind.{Kind}
use Rattle.btx_text.specs.declared.element_kind.Kind.TheVariants.{Byte, Special}
use Rattle.btx_text.specs.declared.element_kind.TextMode.TheVariants.{Bytes}
use Rattle.btx_text.specs.language.Elements.{Element, elements_of}
use Rattle.btx_strings.specs.language.Answers.{no_complaints}
use Rattle.btx_strings.specs.language.Controls.{Glyph, Control, Plain, glyphs_of, without_white}
use Rattle.btx_strings.specs.declared.answers.Complaints.{Complaints}
use Rattle.btx_strings.specs.declared.conversions.Conversion.{Conversion}
use Rattle.btx_strings.specs.declared.conversions.Conversion.TheVariants.{Title, Lower, Upper}
use Rattle.btx_text.specs.language.Lists.{is_among}

-- ---- the conversion

-- the conversion that a string names: it is one letter `t`, `l` or `u`, in either case; else none
abbrev pub conversion_of : List ℕ → Option Conversion
conversion_of [] = None
conversion_of (letter ∷ []) =
    let lower = to_ascii_lowercase letter in
    if lower == byte "t" then Some Title else if lower == byte "l" then Some Lower else if lower == byte "u" then Some Upper else None
conversion_of (letter ∷ more ∷ letters) = None

-- ---- a special character

-- a byte in upper case for `u`, and else in lower case
abbrev pub case_of : Conversion → ℕ → ℕ
case_of Upper b = to_ascii_uppercase b
case_of _ b = to_ascii_lowercase b

-- the control sequences `\i`, `\j` and `\ss`: in upper case they become letters without a backslash, `I`, `J` and `SS`
abbrev pub losing_backslash : List (List ℕ)
losing_backslash = codes "i" ∷ codes "j" ∷ codes "ss" ∷ []

-- a control sequence in another case. In upper case `\i`, `\j` and `\ss` become `I`, `J` and `SS`, and `\o \oe \ae \aa \l` are raised; in lower case
-- and in a title `\O \OE \AE \AA \L` are lowered; all others stay
unfoldable pub cased_control : Conversion → List ℕ → List ℕ
cased_control Upper name =
    if is_among losing_backslash name then map to_ascii_uppercase name
    else if is_among (codes "o" ∷ codes "oe" ∷ codes "ae" ∷ codes "aa" ∷ codes "l" ∷ []) name then byte "\\" ∷ map to_ascii_uppercase name
    else byte "\\" ∷ name
cased_control _ name =
    if is_among (codes "O" ∷ codes "OE" ∷ codes "AE" ∷ codes "AA" ∷ codes "L" ∷ []) name then byte "\\" ∷ map to_ascii_lowercase name
    else byte "\\" ∷ name

-- a glyph of a special character in the case of a conversion
abbrev pub cased_glyph : Conversion → Glyph → List ℕ
cased_glyph conversion (Control name) = cased_control conversion name
cased_glyph conversion (Plain b) = case_of conversion b ∷ []

-- whether a control sequence becomes letters without a backslash, so that the whitespace after it goes: `\i`, `\j` and `\ss` in upper case do
abbrev pub becomes_letters : Conversion → List ℕ → Bool
becomes_letters Upper name = is_among losing_backslash name
becomes_letters _ name = false

-- ---- elements

-- the text is one byte of whitespace
abbrev pub is_white_text : List ℕ → Bool
is_white_text (b ∷ []) = is_white b
is_white_text _ = false

-- of the elements before, which stand nearest first, the nearest that isn't whitespace is a colon at depth 0
abbrev pub after_colon : List Element → Bool
after_colon [] = false
after_colon (part ∷ before) = if is_white_text part.text then after_colon before else part.depth == 0 && bytes_eq part.text (codes ":")

-- an element begins a title, or a part of one: nothing stands before it; or whitespace does, and before that a colon outside all braces (in the original a
-- colon at the end of a string counts for the next string, too)
abbrev pub begins_title : List Element → Bool
begins_title [] = true
begins_title (part ∷ before) = is_white_text part.text && after_colon before

-- the conversion is that to a title, `t`
abbrev pub is_title : Conversion → Bool
is_title Title = true
is_title _ = false

-- an element in another case, given its kind, depth and text. A byte at depth 0 is put in the case of the conversion. A special character changes glyph by
-- glyph; the whitespace directly after a control sequence that becomes letters is removed. Any other element stays as it is
abbrev pub cased_as : Conversion → Kind → ℕ → List ℕ → List ℕ
cased_as conversion Byte depth text = if depth == 0 then map (case_of conversion) text else text
cased_as conversion Special depth text =
    flat_map (cased_glyph conversion)
    (without_white (becomes_letters conversion) [] (glyphs_of text))
cased_as conversion _ depth text = text

-- an element in another case; in a title it stays as it is if it begins the title or a part of it, which `begins` says
abbrev pub cased_part : Conversion → Bool → Element → List ℕ
cased_part conversion begins part = if is_title conversion && begins then part.text else cased_as conversion part.kind part.depth part.text

-- elements in another case; `before` are the elements before them, the nearest first
unfoldable pub cased_parts : Conversion → List Element → List Element → List ℕ
cased_parts conversion before [] = []
cased_parts conversion before (part ∷ parts) = cased_part conversion (begins_title before) part ++ cased_parts conversion (part ∷ before) parts

-- ---- `change.case$`

-- `change.case$`: the string in the case that the conversion names; unchanged if it names none. The string is read as bytes in either mode: bytes
-- from 128 up have no case
abbrev pub change_case_of : List ℕ → List ℕ → List ℕ
change_case_of string conversion =
    option_map_or (λ (to : Conversion). cased_parts to [] (elements_of Bytes string))
    (conversion_of conversion) string

-- the errors of `change.case$` with the string `conversion` on top: one, if that isn't `t`, `l` or `u`
abbrev pub case_complaints : List ℕ → Complaints
case_complaints conversion =
    option_map_or (λ (to : Conversion). no_complaints) (conversion_of conversion)
    (record no_complaints { x9 = true })
