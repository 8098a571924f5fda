-- A file that was found, as the code's clauses make it.
use Rattle.std.specs.Prelude.{ℕ, List}
use Rattle.btx_core.specs.language.Files.Found.{NamedFile}

-- a file, of its name and its bytes
abbrev pub named_file : List ℕ → List ℕ → NamedFile
named_file name bytes = record { name = name; bytes = bytes }
