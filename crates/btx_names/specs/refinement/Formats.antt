-- Parts of a piece of a format, as proofs name them.
use Rattle.std.specs.Prelude.{ℕ, List, drop, if◌then◌else◌, Option}
use Rattle.std.specs.Option.{option_map_or}
use Rattle.btx_names.specs.language.Formats.{is_doubled, FormatPiece, FormatItem, Name, Illegal, piece_item}
use Rattle.btx_names.specs.laws.Formats.{has_no_letter}
use Rattle.btx_names.specs.declared.format_items.PartName.{PartName}

-- the item of a group with a letter at its own level, `letter`, given the part that it names: a piece, or illegal if it names none
abbrev pub lettered_item : List ℕ → ℕ → List ℕ → Option PartName → FormatItem
lettered_item before letter rest part = option_map_or (piece_item before letter rest) part Illegal

-- the text after the letter or the two letters of a piece; `rest` follows the first letter
abbrev pub behind_letters : ℕ → List ℕ → List ℕ
behind_letters letter rest = if is_doubled letter rest then drop 1 rest else rest

-- a piece as an item: it is illegal if a further letter stands in it outside inner braces
abbrev pub legal_piece : FormatPiece → FormatItem
legal_piece piece = if has_no_letter piece.after then Name piece else Illegal
