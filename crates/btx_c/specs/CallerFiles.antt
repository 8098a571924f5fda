-- The files that a caller hands in, and others of which nothing was said.
use Rattle.std.specs.Prelude.{ℕ, ◌<◌, ◌^◌, Bool, List, [], ◌∷◌, Option, None, Some, IfSome, is_some, length, if◌then◌else◌}
use Rattle.std.specs.List.{AllByRecursion}
use Rattle.std.specs.Option.{option_or}
use Rattle.std.specs.Str.{bytes_eq}
use Rattle.btx_aux.specs.language.Answers.{FinderAnswer}
use Rattle.btx_aux.specs.language.Files.{Files}
use Rattle.btx_aux.specs.refinement.Pairs.{first_file}
use Rattle.btx_c.specs.declared.handed.BtxFile.{BtxFile}

-- what was said of a file: its bytes, or that it isn't there
abbrev pub bytes_in : BtxFile → Option (List ℕ)
bytes_in file = if file.is_there then Some file.bytes.now else None

-- what was said of the file of a name, if anything was: the first file that has the name counts
abbrev pub known : List BtxFile → List ℕ → Option (Option (List ℕ))
known [] name = None
known (file ∷ files) name = if bytes_eq file.name.now name then Some (bytes_in file) else known files name

-- something was said of the file of a name
abbrev pub is_known : List BtxFile → List ℕ → Bool
is_known files name = is_some (known files name)

-- files, given by pairs of name and bytes, and by what each other name has: the same bytes, or nothing
abbrev pub OtherFiles : Type 0
OtherFiles = List (List ℕ × List ℕ) × Option (List ℕ)

-- what these files have for a name
abbrev pub file_in : OtherFiles → Files
file_in others name = option_or (first_file others.0 name) others.1

-- all files that there are: those of which something was said are as it was said, and the rest are as `others` has them
abbrev pub beside : List BtxFile → Files → Files
beside [] others name = others name
beside (file ∷ files) others name = if bytes_eq file.name.now name then bytes_in file else beside files others name

-- the text of each answer was held in memory, so it is shorter than 2 ^ 64 bytes
abbrev pub WereHeld : List FinderAnswer → Type 0
WereHeld answers = AllByRecursion (λ (given : FinderAnswer). IfSome given.bytes (λ text. length text < 2 ^ 64)) answers
