-- Files that were found.
use Rattle.std.specs.Prelude.{ℕ, List, Option}
use Rattle.std.specs.Option.{option_map}
use Rattle.btx_aux.specs.language.Files.{Files}

-- a file: its name and its bytes
pub record NamedFile : Type 0 where
  pub name : List ℕ
  pub bytes : List ℕ

-- the file of a name, if it is there
abbrev pub file_at : Files → List ℕ → Option NamedFile
file_at files name = option_map (λ (bytes : List ℕ). record { name = name; bytes = bytes }) (files name)
