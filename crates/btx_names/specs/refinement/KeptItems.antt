-- What clauses see of the items of a format that own their bytes.
use Rattle.std.specs.Prelude.{List, map, option_map}
use Rattle.btx_names.specs.language.Formats as spec
use Rattle.btx_names.specs.declared.kept_item.KeptPiece.{KeptPiece}
use Rattle.btx_names.specs.declared.kept_item.KeptItem.{KeptItem}
use Rattle.btx_names.specs.declared.kept_item.KeptItem.TheVariants.{Literal, Plain, Name}

-- a piece, without where its texts lie in memory
abbrev pub kept_piece_view : KeptPiece → spec.FormatPiece
kept_piece_view piece =
    record {
      before = piece.before.items;
      part = piece.part;
      is_full = piece.is_full;
      between = option_map (λ text. text.items) piece.between;
      after = piece.after.items;
    }

-- an item, without where its texts lie in memory
abbrev pub kept_view : KeptItem → spec.FormatItem
kept_view (Literal text) = spec.Literal text.items
kept_view (Plain text) = spec.Plain text.items
kept_view (Name piece) = spec.Name (kept_piece_view piece)

-- the items of a format
abbrev pub items_in : List KeptItem → List spec.FormatItem
items_in items = map kept_view items
