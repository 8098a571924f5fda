-- The purified form of a string (btxhak, section 5.3, at `purify$`).
use Rattle.std.specs.Prelude.{ℕ, List, [], ◌∷◌}
use Rattle.std.specs.List.{flat_map}
use Rattle.std.specs.Str.{byte}
use Rattle.btx_text.specs.declared.byte_class.Class.{Class}
use Rattle.btx_text.specs.declared.byte_class.Class.TheVariants.{White, Alpha, Digit, Sep, Other}
use Rattle.btx_text.specs.declared.element_kind.Kind.{Kind}
use Rattle.btx_text.specs.declared.element_kind.Kind.TheVariants.{Byte, Special}
use Rattle.btx_text.specs.declared.element_kind.TextMode.TheVariants.{Bytes}
use Rattle.btx_text.specs.language.Class.{class_of}
use Rattle.btx_text.specs.language.Elements.{Element, elements_of}
use Rattle.btx_strings.specs.language.Controls.{Glyph, Control, Plain, glyphs_of, letters_of}

-- what `purify$` leaves of byte `b` outside special characters, by its class: whitespace and separators become a space, letters and digits stay,
-- others are removed
abbrev pub purified_class : Class → ℕ → List ℕ
purified_class White b = byte " " ∷ []
purified_class Sep b = byte " " ∷ []
purified_class Alpha b = b ∷ []
purified_class Digit b = b ∷ []
purified_class Other b = []

-- what `purify$` leaves of a byte of a special character, by its class: letters and digits stay, any other goes
abbrev pub kept_class : Class → ℕ → List ℕ
kept_class Alpha b = b ∷ []
kept_class Digit b = b ∷ []
kept_class _ b = []

-- what `purify$` leaves of a glyph of a special character: of a control sequence the letters that it stands for
abbrev pub purified_glyph : Glyph → List ℕ
purified_glyph (Control name) = letters_of name
purified_glyph (Plain b) = kept_class (class_of b) b

-- what `purify$` leaves of an element, given its kind and its text: of a byte by itself what its class says, of a special character what it leaves of
-- each glyph, and of a brace nothing
abbrev pub purified_as : Kind → List ℕ → List ℕ
purified_as Byte text = flat_map (λ (b : ℕ). purified_class (class_of b) b) text
purified_as Special text = flat_map purified_glyph (glyphs_of text)
purified_as _ text = []

-- `purify$`: what it leaves of each element, joined. The string is read as bytes in either mode: bytes from 128 up are letters and stay
abbrev pub purify_of : List ℕ → List ℕ
purify_of string = flat_map (λ (part : Element). purified_as part.kind part.text) (elements_of Bytes string)
