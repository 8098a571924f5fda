-- The control sequences of special characters (btxhak, section 5.3, at `purify$`, and btxdoc, section 4, at accented and foreign
-- characters). A glyph of a special character is a control sequence, or any other byte.
use Rattle.std.specs.Prelude.{ℕ, zero, suc, ◌==◌, ◌||◌, ◌&&◌, Bool, false, List, [], ◌∷◌, length, take, codes, take_while, if◌then◌else◌}
use Rattle.std.specs.Str.{byte}
use Rattle.btx_text.specs.language.Class.{is_alpha, is_white}
use Rattle.btx_text.specs.language.Lists.{is_among}

-- a control sequence, by what stands after its backslash, or a byte by itself
pub data Glyph : Type 0 where
  Control : List ℕ → Glyph
  Plain : ℕ → Glyph

-- `{` or `}`
abbrev pub is_brace : ℕ → Bool
is_brace b = b == byte "{" || b == byte "}"

-- the name of a control sequence without letters: the one byte after the backslash, but no brace (this project's own rule)
abbrev pub lone : List ℕ → List ℕ
lone [] = []
lone (b ∷ bs) = if is_brace b then [] else b ∷ []

-- the name of a control sequence whose backslash stands before `bs`: the longest run of alpha bytes, or else the one next byte, if that is no brace (in
-- `purify$` the original takes letters alone)
unfoldable pub control_name : List ℕ → List ℕ
control_name bs = let letters = take_while is_alpha bs in if length letters == 0 then lone bs else letters

-- the glyphs that begin in a text, whose first `skip` bytes belong to one before
unfoldable pub glyphs_from : ℕ → List ℕ → List Glyph
glyphs_from skip [] = []
glyphs_from (suc skip) (b ∷ bs) = glyphs_from skip bs
glyphs_from zero (b ∷ bs) =
    if b == byte "\\" then Control (control_name bs) ∷ glyphs_from (length (control_name bs)) bs
    else Plain b ∷ glyphs_from zero bs

-- the glyphs of a special character, its braces among them
unfoldable pub glyphs_of : List ℕ → List Glyph
glyphs_of text = glyphs_from 0 text

-- ---- foreign ones

-- the letters that a control sequence stands for: of `\oe \OE \ae \AE \ss` both letters of its name, of `\i \j \o \O \l \L \aa \AA` the first one, of
-- any other none
unfoldable pub letters_of : List ℕ → List ℕ
letters_of name =
    if is_among (codes "oe" ∷ codes "OE" ∷ codes "ae" ∷ codes "AE" ∷ codes "ss" ∷ []) name then name
    else if is_among (codes "i" ∷ codes "j" ∷ codes "o" ∷ codes "aa" ∷ codes "l" ∷ codes "O" ∷ codes "AA" ∷ codes "L" ∷ []) name then take 1 name
    else []

-- ---- whitespace after a control sequence

-- the glyphs before this one (the nearest first) end in a control sequence whose name passes `test`, and in nothing but whitespace after it
abbrev pub follows : (List ℕ → Bool) → List Glyph → Bool
follows test [] = false
follows test (Control name ∷ before) = test name
follows test (Plain b ∷ before) = is_white b && follows test before

-- the glyph is a byte of whitespace
abbrev pub is_white_glyph : Glyph → Bool
is_white_glyph (Control name) = false
is_white_glyph (Plain b) = is_white b

-- the glyphs without the whitespace directly after a control sequence that passes the test; `before` are the glyphs before them, the nearest
-- first
unfoldable pub without_white : (List ℕ → Bool) → List Glyph → List Glyph → List Glyph
without_white test before [] = []
without_white test before (glyph ∷ glyphs) =
    let others = without_white test (glyph ∷ before) glyphs in
    if follows test before && is_white_glyph glyph then others else glyph ∷ others
