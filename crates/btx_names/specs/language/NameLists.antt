-- The names of a string. Names are joined by `and`, and an `and` inside braces joins none (btxdoc, section 4, at names; btxhak, section 5.3,
-- at `num.names$`).
use Rattle.std.specs.Prelude.{ℕ, zero, suc, ◌==◌, ◌&&◌, Bool, List, [], ◌∷◌, length, nat_le, slice_index, if◌then◌else◌}
use Rattle.std.specs.Char.{to_ascii_lowercase}
use Rattle.btx_text.specs.language.Class.{is_white}
use Rattle.btx_text.specs.language.Elements.{depth_after}
use Rattle.std.specs.List.{onto_first}
use Rattle.std.specs.Str.{byte}

-- ---- separators

-- a text begins with a byte of whitespace, `and` in any case, and a byte of whitespace: 5 bytes, as " and " has
unfoldable pub is_separator : List ℕ → Bool
is_separator text =
    nat_le 5 (length text) && is_white (slice_index text 0) && to_ascii_lowercase (slice_index text 1) == byte "a"
    && to_ascii_lowercase (slice_index text 2) == byte "n" && to_ascii_lowercase (slice_index text 3) == byte "d" && is_white (slice_index text 4)

-- ---- names

-- the pieces of a text between its separators, from brace depth `depth` on. The whitespace round an `and` belongs to the pieces, so that two
-- separators may share a byte of it; the first `skip` bytes are letters of a separator, of which `and` has 3
unfoldable pub pieces_from : ℕ → ℕ → List ℕ → List (List ℕ)
pieces_from skip depth [] = [] ∷ []
pieces_from (suc skip) depth (b ∷ bs) = pieces_from skip depth bs
pieces_from zero depth (b ∷ bs) =
    if depth == 0 && is_separator (b ∷ bs) then (b ∷ []) ∷ pieces_from 3 0 bs
    else onto_first b (pieces_from 0 (depth_after depth b) bs)

-- the names of a string: the empty string has none
unfoldable pub names_of : List ℕ → List (List ℕ)
names_of [] = []
names_of (b ∷ bs) = pieces_from 0 0 (b ∷ bs)
