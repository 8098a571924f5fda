-- What stands between the tokens of a name, by its places.
use Rattle.std.specs.Prelude.{ℕ, ◌==◌, List, take, slice_index, ◌&&◌, Bool, length, filter, nat_lt}
use Rattle.std.specs.List.{range_with_len}
use Rattle.btx_text.specs.language.Elements.{depth_of}
use Rattle.btx_names.specs.language.Runs.{is_break}

-- at this place of a text, which is at depth 0, stands whitespace, a `~`, a `-` or a comma: a byte between tokens
abbrev pub breaks_at : List ℕ → ℕ → Bool
breaks_at text place = depth_of (take place text) == 0 && is_break (slice_index text place)

-- the places of a text at which a byte between tokens stands, in order
abbrev pub breaks_of : List ℕ → List ℕ
breaks_of text = filter (breaks_at text) (range_with_len 0 (length text))

-- a text isn't empty
abbrev pub is_some_text : List ℕ → Bool
is_some_text text = nat_lt 0 (length text)
