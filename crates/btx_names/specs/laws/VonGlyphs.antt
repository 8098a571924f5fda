-- Whether a special character is in lower case, by its glyphs (btxhak, section 5.4): its first control sequence decides.
use Rattle.std.specs.Prelude.{Bool, false, List, [], ◌∷◌, slice_index, if◌then◌else◌}
use Rattle.btx_strings.specs.language.Controls.{Glyph, Control, Plain}
use Rattle.btx_strings.specs.laws.Controls.{glyphs_text}
use Rattle.std.specs.Char.{is_ascii_lowercase}
use Rattle.btx_names.specs.laws.VonTokens.{is_foreign, begins_lower}

-- the first control sequence among glyphs says lower case if it is a foreign letter in lower case, and else if the first letter after it is
unfoldable pub are_lower : List Glyph → Bool
are_lower [] = false
are_lower (Control name ∷ after) = if is_foreign name then is_ascii_lowercase (slice_index name 0) else begins_lower (glyphs_text after)
are_lower (Plain b ∷ after) = are_lower after
