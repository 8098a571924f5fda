-- A table of one pair a name finds what the pairs find.
use Rattle.std.specs.Prelude.{ℕ, List}
use Rattle.std.specs.Str.{bytes_eq}
use Rattle.std.specs.Map.{lookup}
use Rattle.btx_aux.specs.language.Files.{Files}

-- the bytes of the first pair that has the name, as a table of one pair a name gives them
abbrev pub first_file : List (List ℕ × List ℕ) → Files
first_file pairs name = lookup (bytes_eq name) pairs
