-- A format written from its items again, and its bytes that are literals.
use Rattle.std.specs.Prelude.{ℕ, ◌==◌, ◌&&◌, ◌||◌, Bool, not, List, [], ◌∷◌, ◌++◌, Option, Some, None, length, take, slice_index, filter, map, if◌then◌else◌}
use Rattle.std.specs.List.{flat_map, range_with_len}
use Rattle.std.specs.Char.{to_ascii_lowercase}
use Rattle.btx_text.specs.language.Elements.{depth_of}
use Rattle.btx_names.specs.declared.format_items.PartName.{PartName}
use Rattle.btx_names.specs.declared.format_items.PartName.TheVariants.{First, Von, Last, Jr}
use Rattle.btx_names.specs.language.Formats.{FormatPiece, FormatItem, Literal, Plain, Name, Illegal}
use Rattle.btx_text.specs.laws.Bytes.{open_brace, close_brace}

-- a text in braces
abbrev pub in_braces : List ℕ → List ℕ
in_braces text = open_brace ∷ text ++ close_brace ∷ []

-- the letter that names a part
abbrev pub letter_of : PartName → ℕ
letter_of First = 102
letter_of Von = 118
letter_of Last = 108
letter_of Jr = 106

-- the letter of a part, twice where the part is in full
abbrev pub letters_of_part : PartName → Bool → List ℕ
letters_of_part part is_full = if is_full then letter_of part ∷ letter_of part ∷ [] else letter_of part ∷ []

-- the braced string between tokens, if there is one
abbrev pub text_of_between : Option (List ℕ) → List ℕ
text_of_between None = []
text_of_between (Some text) = in_braces text

-- what stands in the braces of a piece
abbrev pub text_of_piece : FormatPiece → List ℕ
text_of_piece piece = piece.before ++ letters_of_part piece.part piece.is_full ++ text_of_between piece.between ++ piece.after

-- an item, as it is written in a format
abbrev pub text_of_item : FormatItem → List ℕ
text_of_item (Literal text) = text
text_of_item (Plain text) = in_braces text
text_of_item (Name piece) = in_braces (text_of_piece piece)
text_of_item Illegal = []

-- items, written one after another
abbrev pub text_of_items : List FormatItem → List ℕ
text_of_items items = flat_map text_of_item items

-- a text without regard to case
abbrev pub in_lower_case : List ℕ → List ℕ
in_lower_case text = map to_ascii_lowercase text

-- ---- literals

-- the bytes of a literal; any other item has none
abbrev pub literal_bytes : FormatItem → List ℕ
literal_bytes (Literal text) = text
literal_bytes _ = []

-- the bytes of the literals among items, one after another
abbrev pub literals_bytes : List FormatItem → List ℕ
literals_bytes items = flat_map literal_bytes items

-- `{` or `}`
abbrev pub is_brace : ℕ → Bool
is_brace b = b == open_brace || b == close_brace

-- a byte that is no brace stands at this place of a format, at depth 0
abbrev pub copies_at : List ℕ → ℕ → Bool
copies_at format place = depth_of (take place format) == 0 && not (is_brace (slice_index format place))

-- the bytes of a format that stand at depth 0 and are no braces, in order
abbrev pub copied_of : List ℕ → List ℕ
copied_of format = map (slice_index format) (filter (copies_at format) (range_with_len 0 (length format)))
