-- The functions on strings (btxhak, section 5.3), by the elements of a string and the glyphs of special characters. `add.period$` and `substring$` go by
-- bytes (`add_period_of`, `substring_of`); classes, widths and foreign letters are tables.
use Rattle.btx_core.specs.language.Divisions.{Divisions}
use Rattle.btx_strings.specs.declared.conversions.Conversion.{Conversion}
use Rattle.btx_strings.specs.language.Case.{becomes_letters, begins_title, case_of, cased_glyph, is_title}
use Rattle.btx_strings.specs.language.Controls.{without_white}
use Rattle.btx_strings.specs.language.Lengths.{take_characters, wanted_length}
use Rattle.btx_strings.specs.language.Purify.{purified_class, purified_glyph}
use Rattle.btx_strings.specs.language.Width.{byte_width, glyph_width}
use Rattle.btx_text.specs.declared.element_kind.Kind.{Kind}
use Rattle.btx_text.specs.declared.element_kind.Kind.TheVariants.{Byte, Special}
use Rattle.btx_text.specs.declared.element_kind.TextMode.{TextMode}
use Rattle.btx_text.specs.declared.element_kind.TextMode.TheVariants.{Bytes}
use Rattle.btx_text.specs.language.Class.{class_of}
use Rattle.btx_text.specs.language.Elements.{Element, depth_of, is_character}
use Rattle.btx_text.specs.laws.Elements.{text_of}
use Rattle.std.specs.List.{flat_map}
use Rattle.std.specs.Prelude.{List, [], count_by, if◌then◌else◌, map, replicate, sum_by, true, ℕ, ℤ, ◌&&◌, ◌++◌, ◌==◌, ◌∷◌}
use Rattle.std.specs.Str.{byte}

module _ (divisions : Divisions) where
  -- `text.length$`: how many characters of text a string has: a special character is one, a brace by itself none
  abbrev pub text_length : TextMode → List ℕ → ℕ
  text_length mode string = count_by (λ part. is_character part.kind) (divisions.elements mode string)

  -- `text.prefix$`: the shortest prefix of whole elements that has `count` characters, and a `}` for each brace that it leaves open
  abbrev pub text_prefix : TextMode → List ℕ → ℤ → List ℕ
  text_prefix mode string count =
      let front = text_of (take_characters (wanted_length count) (divisions.elements mode string)) in
      front ++ replicate (depth_of front) (byte "}")

  -- `purify$` of a part: of a byte by itself what its class says; of a special character its letters and digits, and of its control sequences the letters
  -- that they stand for; of braces nothing
  abbrev pub purified_part : Kind → List ℕ → List ℕ
  purified_part Byte text = flat_map (λ (b : ℕ). purified_class (class_of b) b) text
  purified_part Special text = flat_map purified_glyph (divisions.glyphs text)
  purified_part _ text = []

  -- `purify$` of a string: part by part
  abbrev pub purified : List ℕ → List ℕ
  purified string = flat_map (λ (part : Element). purified_part part.kind part.text) (divisions.elements Bytes string)

  -- `change.case$` of a part: bytes at depth 0, and special characters glyph by glyph, where `\i`, `\j` and `\ss` in upper case lose their backslash and the
  -- whitespace after them
  abbrev pub cased : Conversion → Kind → ℕ → List ℕ → List ℕ
  cased to Byte depth text = if depth == 0 then map (case_of to) text else text
  cased to Special depth text = flat_map (cased_glyph to) (without_white (becomes_letters to) [] (divisions.glyphs text))
  cased to _ depth text = text

  -- in a title the first element keeps its case, and the first after a colon and whitespace; `before` are the elements before, nearest first
  abbrev pub all_cased : Conversion → List Element → List Element → List ℕ
  all_cased to before [] = []
  all_cased to before (part ∷ parts) =
      (if is_title to && begins_title before then part.text else cased to part.kind part.depth part.text) ++ all_cased to (part ∷ before) parts

  -- `change.case$` of a string (the original also warns of braces that match none)
  abbrev pub in_case : Conversion → List ℕ → List ℕ
  in_case to string = all_cased to [] (divisions.elements Bytes string)

  -- `width$` of a part: the sum of the widths of bytes; of a special character that of its glyphs, without the whitespace after control sequences
  abbrev pub part_width : Kind → List ℕ → ℕ
  part_width Special text = sum_by glyph_width (without_white (λ _. true) [] (divisions.glyphs text))
  part_width _ text = sum_by byte_width text

  -- `width$` of a string: the sum over its parts
  abbrev pub width : List ℕ → ℕ
  width string = sum_by (λ (part : Element). part_width part.kind part.text) (divisions.elements Bytes string)
