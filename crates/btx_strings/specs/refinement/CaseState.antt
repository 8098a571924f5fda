-- What the code keeps of what stands before, and the pieces that it goes by.
use Rattle.std.specs.Prelude.{◌≡◌, ◌<◌, ◌≤◌, ℕ, Bool, true, false, ◌==◌, ◌&&◌, not, nat_eq, slice_index, List, [], ◌∷◌, map, codes, if◌then◌else◌}
use Rattle.std.specs.List.{prefix_len, starts_with}
use Rattle.std.specs.Str.{bytes_eq}
use Rattle.btx_text.specs.language.Elements.{group_len}
use Rattle.btx_strings.specs.language.Case.{is_white_text, is_title, case_of}
use Rattle.btx_strings.specs.declared.conversions.Conversion.{Conversion}
use Rattle.btx_strings.specs.declared.conversions.Conversion.TheVariants.{Title}
use Rattle.btx_strings.specs.declared.case_change.Place.{Place}
use Rattle.btx_strings.specs.declared.case_change.Place.TheVariants.{First, Colon, ColonAndWhite, Inside}
use Rattle.btx_strings.specs.refinement.Case.{cased_special}
use Rattle.btx_text.specs.laws.Bytes.{open_brace, backslash}

-- what is said to stand before a string: what begins there matters to a title alone
abbrev pub first_place : Conversion → Place
first_place Title = First
first_place _ = Inside

-- a colon at depth 0 stands before, with nothing but whitespace after it
abbrev pub is_after_colon : Place → Bool
is_after_colon Colon = true
is_after_colon ColonAndWhite = true
is_after_colon _ = false

-- a title, or a part of one, begins at this place
abbrev pub is_beginning : Place → Bool
is_beginning First = true
is_beginning ColonAndWhite = true
is_beginning _ = false

-- nothing begins here, and no colon stands before
abbrev pub is_inside : Place → Bool
is_inside Inside = true
is_inside _ = false

-- ---- pieces of a string: whole groups, and outside of them runs of bytes or single ones

-- a byte that a run may have: it begins no group, and it is no colon
abbrev pub is_case_plain : ℕ → Bool
is_case_plain b = not (b == 58) && not (b == open_brace)

-- the bytes from a place up to another one are such
abbrev pub ArePlain : List ℕ → ℕ → ℕ → Type 0
ArePlain text from to = (place : ℕ) → from ≤ place → place < to → is_case_plain (slice_index text place) ≡ true

-- how many bytes the piece has that a text begins with: a whole group; else, where nothing begins, a whole run; else one byte
unfoldable pub piece_len : Place → List ℕ → ℕ
piece_len place [] = 0
piece_len place (b ∷ bs) = if b == open_brace then group_len 0 (b ∷ bs) else if is_inside place && is_case_plain b then prefix_len is_case_plain (b ∷ bs) else 1

-- a piece that changes: what stands outside groups does, and special characters
abbrev pub changed_piece : Conversion → List ℕ → List ℕ
changed_piece conversion piece =
    if starts_with nat_eq piece (open_brace ∷ backslash ∷ []) then cased_special conversion piece
    else if slice_index piece 0 == open_brace then piece else map (case_of conversion) piece

-- a piece in another case; as a title, what begins one is kept
unfoldable pub cased_piece : Conversion → Bool → List ℕ → List ℕ
cased_piece conversion begins piece = if is_title conversion && begins then piece else changed_piece conversion piece

-- the place after one more piece
abbrev pub place_after : Place → List ℕ → Place
place_after place piece =
    if is_white_text piece then (if is_after_colon place then ColonAndWhite else Inside)
    else if bytes_eq piece (codes ":") then Colon else Inside
