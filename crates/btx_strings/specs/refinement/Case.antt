-- Names of parts of the definition of `change.case$`.
use Rattle.std.specs.Prelude.{ℕ, List, [], Option, Some, None, true, ◌==◌, ◌&&◌, Bool, codes}
use Rattle.std.specs.List.{flat_map}
use Rattle.std.specs.Option.{option_map_or}
use Rattle.btx_strings.specs.language.Controls.{glyphs_of, without_white}
use Rattle.btx_strings.specs.declared.conversions.Conversion.{Conversion}
use Rattle.btx_strings.specs.language.Case.{cased_glyph, becomes_letters, cased_parts}
use Rattle.btx_text.specs.declared.element_kind.TextMode.TheVariants.{Bytes}
use Rattle.btx_text.specs.language.Elements.{elements_of, Element}
use Rattle.btx_strings.specs.language.Answers.{no_complaints}
use Rattle.btx_strings.specs.declared.answers.Complaints.{Complaints}
use Rattle.std.specs.Str.{bytes_eq}

-- a colon at depth 0
abbrev pub is_colon : Element → Bool
is_colon part = part.depth == 0 && bytes_eq part.text (codes ":")

-- a string in the case of a conversion; without a conversion the string stays. It is read as bytes in either mode: bytes from 128 up have no case
abbrev pub cased_by : Option Conversion → List ℕ → List ℕ
cased_by conversion string = option_map_or (λ (to : Conversion). cased_parts to [] (elements_of Bytes string)) conversion string

-- an error if the conversion isn't `t`, `l` or `u`
abbrev pub complaints_by : Option Conversion → Complaints
complaints_by conversion = option_map_or (λ (to : Conversion). no_complaints) conversion (record no_complaints { x9 = true })

-- a special character in the case of a conversion
abbrev pub cased_special : Conversion → List ℕ → List ℕ
cased_special conversion text = flat_map (cased_glyph conversion) (without_white (becomes_letters conversion) [] (glyphs_of text))

-- a string in the case of a conversion. It is read as bytes in either mode: bytes from 128 up have no case
abbrev pub cased : Conversion → List ℕ → List ℕ
cased conversion string = cased_parts conversion [] (elements_of Bytes string)
