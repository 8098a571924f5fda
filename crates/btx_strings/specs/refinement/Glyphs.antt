-- What clauses see of a glyph of the code, and what the code keeps of the glyphs before.
use Rattle.std.specs.Prelude.{ℕ, Bool, true, List, ◌&&◌}
use Rattle.btx_text.specs.language.Class.{is_white}
use Rattle.btx_strings.specs.language.Case.{becomes_letters}
use Rattle.btx_strings.specs.language.Controls as spec
use Rattle.btx_strings.specs.declared.controls.Glyph.{Glyph}
use Rattle.btx_strings.specs.declared.controls.Glyph.TheVariants.{Control, Plain}
use Rattle.btx_strings.specs.declared.controls.Sequences.{Sequences}
use Rattle.btx_strings.specs.declared.controls.Sequences.TheVariants.{All, MadeLetters}

-- a glyph, without where its bytes lie in memory
abbrev pub glyph_of : Glyph → spec.Glyph
glyph_of (Control name) = spec.Control name.now
glyph_of (Plain b) = spec.Plain b

-- a control sequence is among these
abbrev pub is_of : Sequences → List ℕ → Bool
is_of All name = true
is_of (MadeLetters conversion) name = becomes_letters conversion name

-- whitespace goes after a glyph, carried on from the glyph before: after a control sequence that passes a test, and after whitespace where it went
-- before
abbrev pub gone_after : (List ℕ → Bool) → Bool → spec.Glyph → Bool
gone_after test gone (spec.Control name) = test name
gone_after test gone (spec.Plain b) = is_white b && gone
