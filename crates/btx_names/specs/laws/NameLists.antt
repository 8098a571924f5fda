-- The separators of a list of names, by their places in it.
use Rattle.std.specs.Prelude.{ℕ, ◌==◌, ◌&&◌, Bool, List, length, take, drop, filter}
use Rattle.std.specs.List.{range_with_len}
use Rattle.btx_text.specs.language.Elements.{depth_of}
use Rattle.btx_names.specs.language.NameLists.{is_separator}

-- at `place` of a string, at depth 0, a separator of names begins: a whitespace byte, `and`, and a whitespace byte
abbrev pub separates_at : List ℕ → ℕ → Bool
separates_at string place = depth_of (take place string) == 0 && is_separator (drop place string)

-- the places of the separators of a string
abbrev pub separators_of : List ℕ → List ℕ
separators_of string = filter (separates_at string) (range_with_len 0 (length string))
