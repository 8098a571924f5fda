-- The names of a list from a place on.
use Rattle.std.specs.Prelude.{ℕ, List, drop}
use Rattle.btx_names.specs.language.NameLists.{pieces_from}

-- the names of a list from a place on at which one of them begins
abbrev pub names_from : List ℕ → ℕ → List (List ℕ)
names_from names place = pieces_from 0 0 (drop place names)
