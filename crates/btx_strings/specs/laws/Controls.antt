-- The division of a special character's text, stated: relations that say when glyphs are its reading.
use Rattle.std.specs.Prelude.{◌≡◌, ℕ, ◌==◌, ◌&&◌, Bool, false, not, List, [], ◌∷◌, ◌++◌, length, IsTrue, if◌then◌else◌}
use Rattle.std.specs.List.{flat_map, list_all}
use Rattle.btx_text.specs.language.Class.{is_alpha}
use Rattle.btx_strings.specs.language.Controls.{Glyph, Control, Plain, is_brace}
use Rattle.btx_text.specs.laws.Bytes.{backslash}

-- the bytes of a glyph
abbrev pub glyph_text : Glyph → List ℕ
glyph_text (Control name) = backslash ∷ name
glyph_text (Plain b) = b ∷ []

-- the bytes of glyphs, joined
abbrev pub glyphs_text : List Glyph → List ℕ
glyphs_text glyphs = flat_map glyph_text glyphs

-- a text begins with a byte that passes a test
abbrev pub begins_with : (ℕ → Bool) → List ℕ → Bool
begins_with test [] = false
begins_with test (b ∷ bs) = test b

-- the name of a control sequence, with what follows it: alpha bytes that no other follows; or one other byte, but no brace; or nothing,
-- before a brace and at the end
abbrev pub is_name : List ℕ → List ℕ → Bool
is_name [] after = not (begins_with (λ b. not (is_brace b)) after)
is_name (b ∷ bs) after =
    if is_alpha b then list_all is_alpha bs && not (begins_with is_alpha after)
    else (length bs == 0) && not (is_brace b)

-- a glyph, with what follows it: a backslash begins a control sequence, any other byte is by itself
abbrev pub is_glyph : Glyph → List ℕ → Bool
is_glyph (Control name) after = is_name name after
is_glyph (Plain b) after = not (b == backslash)

-- the glyphs joined are the text, and each is the glyph of its place
pub record AreGlyphs (text : List ℕ) (glyphs : List Glyph) : Type 0 where
  pub joined : glyphs_text glyphs ≡ text
  pub each : (left : List Glyph) (glyph : Glyph) (right : List Glyph) → glyphs ≡ left ++ glyph ∷ right → IsTrue (is_glyph glyph (glyphs_text right))
