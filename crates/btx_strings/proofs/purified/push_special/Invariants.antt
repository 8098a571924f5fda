use Rattle.std.proofs.Common.{◌≡◌, ◌++◌}
use Rattle.std.specs.List.{flat_map}
use Rattle.btx_strings.specs.language.Controls.{glyphs_of}
use Rattle.btx_strings.specs.language.Purify.{purified_glyph}
use Rattle.btx_strings.proofs.purified.push_special.Given as goal

abbrev pub invariant-loop-glyph : goal.invariant-loop-glyph
invariant-loop-glyph l = l.text.items ++ flat_map purified_glyph l.glyph-iterator ≡ l.initial.text.items ++ flat_map purified_glyph (glyphs_of l.special)
