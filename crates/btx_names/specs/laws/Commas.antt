-- The commas of a name: those that count, and those that no token follows.
use Rattle.std.specs.Prelude.{ℕ, ◌+◌, ◌==◌, ◌&&◌, Bool, not, List, length, take, drop, slice_index, filter}
use Rattle.std.specs.List.{range_with_len}
use Rattle.btx_text.specs.laws.Bytes.{comma}
use Rattle.btx_text.specs.language.Elements.{depth_of}
use Rattle.btx_names.specs.language.NameParts.{Sections, One, Two, Three}
use Rattle.btx_names.specs.laws.NameParts.{is_all_breaks}

-- a comma stands at this place of a name, at depth 0
abbrev pub is_comma_at : List ℕ → ℕ → Bool
is_comma_at name place = depth_of (take place name) == 0 && slice_index name place == comma

-- a comma that counts stands at this place of a name: it is at depth 0, and a token follows it
abbrev pub counts_at : List ℕ → ℕ → Bool
counts_at name place = is_comma_at name place && not (is_all_breaks (drop (place + 1) name))

-- a final comma stands at this place of a name: it is at depth 0, and no token follows it
abbrev pub ends_at : List ℕ → ℕ → Bool
ends_at name place = is_comma_at name place && is_all_breaks (drop (place + 1) name)

-- the places of the commas that count
abbrev pub commas_of : List ℕ → List ℕ
commas_of name = filter (counts_at name) (range_with_len 0 (length name))

-- the places of the commas that no token follows
abbrev pub final_commas_of : List ℕ → List ℕ
final_commas_of name = filter (ends_at name) (range_with_len 0 (length name))

-- how many commas a name of a form has that count
abbrev pub commas_in : Sections → ℕ
commas_in (One name) = 0
commas_in (Two surname first) = 1
commas_in (Three surname jr first) = 2
