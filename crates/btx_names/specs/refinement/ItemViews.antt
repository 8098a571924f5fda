-- What clauses see of an item of a format in the code.
use Rattle.std.specs.Prelude.{ℕ, Bool, true, false, not, ◌&&◌, List, [], ◌∷◌, Option, Some, None}
use Rattle.btx_names.specs.language.Formats as spec
use Rattle.btx_names.specs.declared.format_items.Piece.{Piece}
use Rattle.btx_names.specs.declared.format_items.Item.{Item}
use Rattle.btx_names.specs.declared.format_items.Item.TheVariants.{Literal, Plain, Name, Illegal}
use Rattle.std.specs.Option.{option_copied}

-- a piece, without where its texts lie in memory
abbrev pub piece_view : Piece → spec.FormatPiece
piece_view piece =
    record {
      before = piece.before.now;
      part = piece.part;
      is_full = piece.is_full;
      between = option_copied piece.between;
      after = piece.after.now;
    }

-- an item, without where its texts lie in memory
abbrev pub item_view : Item → spec.FormatItem
item_view (Literal text) = spec.Literal text.now
item_view (Plain text) = spec.Plain text.now
item_view (Name piece) = spec.Name (piece_view piece)
item_view Illegal = spec.Illegal

-- the empty string
abbrev pub is_nothing : Option (List ℕ) → Bool
is_nothing None = false
is_nothing (Some []) = true
is_nothing (Some (b ∷ bs)) = false

-- a piece whose tokens are abbreviated, with the empty string between them
abbrev pub has_nothing_between : spec.FormatPiece → Bool
has_nothing_between piece = not piece.is_full && is_nothing piece.between
