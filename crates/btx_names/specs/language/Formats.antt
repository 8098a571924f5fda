-- The format of a name (btxhak, section 5.4): bytes at depth 0 are copied, and each group in braces is a piece that may hold one letter
-- which names a part of the name.
use Rattle.std.specs.Prelude.{ℕ, zero, suc, ◌+◌, ◌-◌, ◌==◌, Bool, true, false, not, List, [], ◌∷◌, Option, Some, None, length, take, drop, slice_index}
use Rattle.std.specs.Prelude.{if◌then◌else◌}
use Rattle.std.specs.List.{list_any}
use Rattle.std.specs.Char.{to_ascii_lowercase}
use Rattle.std.specs.Str.{byte}
use Rattle.std.specs.Option.{option_map_or}
use Rattle.btx_names.specs.declared.format_items.PartName.{PartName}
use Rattle.btx_names.specs.declared.format_items.PartName.TheVariants.{First, Von, Last, Jr}
use Rattle.btx_names.specs.declared.runs.Stop.TheVariants.{Letter, Closing, Brace}
use Rattle.btx_names.specs.language.Runs.{run_len}

-- a piece with a part: what stands before the tokens and after them, which part, in full or abbreviated, and what stands between the tokens
-- if the format says so
pub record FormatPiece : Type 0 where
  pub before : List ℕ
  pub part : PartName
  pub is_full : Bool
  pub between : Option (List ℕ)
  pub after : List ℕ

-- what a format is made of: bytes to be copied, a group without a letter, a piece with a part, or anything else
pub data FormatItem : Type 0 where
  Literal : List ℕ → FormatItem
  Plain : List ℕ → FormatItem
  Name : FormatPiece → FormatItem
  Illegal : FormatItem

-- the part that a letter names, in either case: `f`, `v`, `l`, `j`
unfoldable pub part_named : ℕ → Option PartName
part_named letter =
    let lower = to_ascii_lowercase letter in
    if lower == byte "f" then Some First
    else if lower == byte "v" then Some Von
    else if lower == byte "l" then Some Last
    else if lower == byte "j" then Some Jr else None

-- ---- a piece with a part, of what follows its letter

-- the letter stands twice, in either case
abbrev pub is_doubled : ℕ → List ℕ → Bool
is_doubled letter [] = false
is_doubled letter (second ∷ rest) = to_ascii_lowercase second == to_ascii_lowercase letter

-- the braced string directly after the letters, without its braces
abbrev pub between_of : List ℕ → Option (List ℕ)
between_of rest =
    if slice_index rest 0 == byte "{" then Some (take (run_len Closing 0 (drop 1 rest)) (drop 1 rest)) else None

-- what follows the letters of a piece, without the braced string directly after them, if there is one
abbrev pub behind_between : List ℕ → List ℕ
behind_between rest =
    if slice_index rest 0 == byte "{" then drop (run_len Closing 0 (drop 1 rest) + 1) (drop 1 rest) else rest

-- the item of a group whose first letter names a part (`part`), given the text before that letter, the letter, and what follows it. It is illegal if
-- a further letter stands in it outside inner braces
unfoldable pub piece_item : List ℕ → ℕ → List ℕ → PartName → FormatItem
piece_item before letter rest part =
    let behind = if is_doubled letter rest then drop 1 rest else rest in
    let after = behind_between behind in
    if run_len Letter 0 after == length after then
    Name (record { before = before; part = part; is_full = is_doubled letter rest; between = between_of behind; after = after })
    else Illegal

-- ---- the items

-- the item of a group, given the text before the first letter at its own level and the rest from that letter on. Without a letter it is the text. With
-- one it is a piece, if the letter names a part, and else illegal
abbrev pub split_item : List ℕ → List ℕ → FormatItem
split_item before [] = Plain before
split_item before (letter ∷ rest) = option_map_or (piece_item before letter rest) (part_named letter) Illegal

-- the item of a group, given the text inside its braces
unfoldable pub inside_item : List ℕ → FormatItem
inside_item inside = let size = run_len Letter 0 inside in split_item (take size inside) (drop size inside)

-- the item that a `{` begins, of what follows it: a group, if it is closed
unfoldable pub group_item : List ℕ → FormatItem
group_item rest = let size = run_len Closing 0 rest in if size == length rest then Illegal else inside_item (take size rest)

-- the item that begins with byte `b` and goes on in `bs`; a `}` is illegal
abbrev pub item_at : ℕ → List ℕ → FormatItem
item_at b bs =
    if b == byte "{" then group_item bs
    else if b == byte "}" then Illegal
    else Literal (take (run_len Brace 0 (b ∷ bs)) (b ∷ bs))

-- the number of bytes of `bs` that belong to the item that begins with byte `b`
abbrev pub item_rest : ℕ → List ℕ → ℕ
item_rest b bs =
    if b == byte "{" then suc (run_len Closing 0 bs)
    else if b == byte "}" then 0
    else run_len Brace 0 (b ∷ bs) - 1

-- the items that begin in a format, whose first `skip` bytes belong to one before
unfoldable pub items_from : ℕ → List ℕ → List FormatItem
items_from skip [] = []
items_from (suc skip) (b ∷ bs) = items_from skip bs
items_from zero (b ∷ bs) = item_at b bs ∷ items_from (item_rest b bs) bs

-- the items of a format, in order: literal bytes, and groups in braces
unfoldable pub items_of : List ℕ → List FormatItem
items_of format = items_from 0 format

-- the item is illegal
abbrev pub is_illegal : FormatItem → Bool
is_illegal Illegal = true
is_illegal _ = false

-- a format is legal: none of its items is illegal
abbrev pub is_legal : List ℕ → Bool
is_legal format = not (list_any is_illegal (items_of format))
