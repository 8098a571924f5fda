-- Files given as pairs of name and bytes.
use Rattle.std.specs.Prelude.{ℕ, List, [], ◌∷◌, None, Some, if◌then◌else◌}
use Rattle.std.specs.Str.{bytes_eq}
use Rattle.std.specs.Option.{option_or}
use Rattle.btx_aux.specs.language.Files.{Files}

-- the bytes of a pair, if it has this name
abbrev pub file_of_pair : List ℕ × List ℕ → Files
file_of_pair pair name = if bytes_eq name pair.0 then Some pair.1 else None

-- the files of some pairs: the bytes of the last pair that has the name
abbrev pub files_of_pairs : List (List ℕ × List ℕ) → Files
files_of_pairs [] name = None
files_of_pairs (pair ∷ pairs) name = option_or (files_of_pairs pairs name) (file_of_pair pair name)
