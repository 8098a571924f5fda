-- Worked divisions and lines, by computation.
use Rattle.std.proofs.Common.{◌≡◌, ℕ, List, [], ◌∷◌, map, refl}
use Rattle.std.specs.Prelude.{codes}
use Rattle.btx_text.specs.declared.element_kind.Kind.{Kind}
use Rattle.btx_text.specs.declared.element_kind.Kind.TheVariants.{Byte, Open, Close, Special, Wide}
use Rattle.btx_text.specs.declared.element_kind.TextMode.{TextMode}
use Rattle.btx_text.specs.declared.element_kind.TextMode.TheVariants.{Bytes, Utf8}
use Rattle.btx_text.specs.language.Keys.{folded}
use Rattle.btx_text.specs.language.Sequences.{sequence_size, second_fits, is_sequence, begins_sequence}
use Rattle.btx_text.specs.language.Lines.{line_pieces, trimmed, lines_of}
use Rattle.btx_text.specs.language.Elements.{Element, kind_at, group_len, elements_from, elements_of}

abbrev kinds : TextMode → List ℕ → List Kind
kinds mode string = map (λ (part : Element). part.kind) (elements_of mode string)

abbrev starts : TextMode → List ℕ → List ℕ
starts mode string = map (λ (part : Element). part.start) (elements_of mode string)

-- a group that doesn't begin with a backslash is braces and bytes; a special character is one element
pub braces : kinds Bytes (codes "{\\\"O}z{a}") ≡ Special ∷ Byte ∷ Open ∷ Byte ∷ Close ∷ []
unfolding elements_of elements_from kind_at group_len
braces = refl

pub places : starts Bytes (codes "{\\\"O}z{a}") ≡ 0 ∷ 5 ∷ 6 ∷ 7 ∷ 8 ∷ []
unfolding elements_of elements_from kind_at group_len
places = refl

-- a special character begins at depth 0 only, and holds braces; without an end it runs to the end of the string
pub nested : kinds Bytes (codes "{{\\o}}{\\o{x}y") ≡ Open ∷ Open ∷ Byte ∷ Byte ∷ Close ∷ Close ∷ Special ∷ []
unfolding elements_of elements_from kind_at group_len
nested = refl

-- a brace and a backslash that end a string are a special character
pub at_the_end : kinds Bytes (codes "a{\\") ≡ Byte ∷ Special ∷ []
unfolding elements_of elements_from kind_at group_len
at_the_end = refl

-- the case of a key is that of its ASCII letters alone
pub folded_byte : folded (0x41 ∷ 0xC9 ∷ []) ≡ 0x61 ∷ 0xC9 ∷ []
folded_byte = refl

-- a closing brace at depth 0 leaves it at 0
pub stray : kinds Bytes (codes "}{\\o}") ≡ Close ∷ Special ∷ []
unfolding elements_of elements_from kind_at group_len
stray = refl

-- É and a
pub wide : kinds Utf8 (0xC3 ∷ 0x89 ∷ 0x61 ∷ []) ≡ Wide ∷ Byte ∷ []
unfolding elements_of elements_from kind_at group_len sequence_size second_fits is_sequence begins_sequence
wide = refl

-- an overlong form, a surrogate, a cut sequence
pub overlong : kinds Utf8 (0xC0 ∷ 0xAF ∷ []) ≡ Byte ∷ Byte ∷ []
unfolding elements_of elements_from kind_at group_len sequence_size second_fits is_sequence begins_sequence
overlong = refl

pub surrogate : kinds Utf8 (0xED ∷ 0xA0 ∷ 0x80 ∷ []) ≡ Byte ∷ Byte ∷ Byte ∷ []
unfolding elements_of elements_from kind_at group_len sequence_size second_fits is_sequence begins_sequence
surrogate = refl

pub cut : kinds Utf8 (0xE2 ∷ 0x82 ∷ []) ≡ Byte ∷ Byte ∷ []
unfolding elements_of elements_from kind_at group_len sequence_size second_fits is_sequence begins_sequence
cut = refl

-- three and four bytes, in braces too; none in a special character
pub longer : kinds Utf8 (0x7B ∷ 0xE2 ∷ 0x82 ∷ 0xAC ∷ 0x7D ∷ 0xF0 ∷ 0x9F ∷ 0x98 ∷ 0x80 ∷ []) ≡ Open ∷ Wide ∷ Close ∷ Wide ∷ []
unfolding elements_of elements_from kind_at group_len sequence_size second_fits is_sequence begins_sequence
longer = refl

pub inside : kinds Utf8 (0x7B ∷ 0x5C ∷ 0xC3 ∷ 0x89 ∷ 0x7D ∷ []) ≡ Special ∷ []
unfolding elements_of elements_from kind_at group_len sequence_size second_fits is_sequence begins_sequence
inside = refl

-- ---- lines

-- whitespace at the end of a line goes, whitespace at its beginning stays; a last line may be whitespace alone
pub cut_lines : lines_of (0x61 ∷ 0x20 ∷ 0x0D ∷ 0x0A ∷ 0x0A ∷ 0x20 ∷ 0x62 ∷ 0x0A ∷ 0x09 ∷ []) ≡ (0x61 ∷ []) ∷ [] ∷ (0x20 ∷ 0x62 ∷ []) ∷ [] ∷ []
unfolding line_pieces trimmed
cut_lines = refl

-- nothing follows the last line feed
pub ended_line : lines_of (0x61 ∷ 0x0A ∷ []) ≡ (0x61 ∷ []) ∷ []
unfolding line_pieces trimmed
ended_line = refl
