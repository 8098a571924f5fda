-- What was said of a file, as the code has it, and the table in which it is found by name.
use Rattle.std.specs.Prelude.{◌≡◌, ℕ, List, [], ◌∷◌, Option, None, Some}
use Rattle.std.specs.Borrow.{Bor}
use Rattle.std.specs.Map.{lookup}
use Rattle.std.specs.Option.{option_map, option_or}
use Rattle.std.specs.Str.{bytes_eq}
use Rattle.btx_c.specs.declared.handed.BtxFile.{BtxFile}
use Rattle.btx_c.specs.declared.handed.Known.{Known}
use Rattle.btx_c.specs.declared.handed.Known.TheVariants.{Bytes, Absent, Unknown}
use Rattle.btx_c.specs.CallerFiles.{bytes_in, known}

-- what was said, if anything was
abbrev pub known_of : Known → Option (Option (List ℕ))
known_of (Bytes bytes) = Some (Some bytes.now)
known_of Absent = Some None
known_of Unknown = None

-- what a table says of a name: what its file there says, if it has one
abbrev pub said_in : List (Bor (List ℕ) × Bor BtxFile) → List ℕ → Option (Option (List ℕ))
said_in entries name = option_map (λ (file : Bor BtxFile). bytes_in file.now) (lookup (λ (key : Bor (List ℕ)). bytes_eq name key.now) entries)

-- a table says of each name what the files say
abbrev pub IsTableOf : List (Bor (List ℕ) × Bor BtxFile) → List BtxFile → Type 0
IsTableOf entries files = (name : List ℕ) → said_in entries name ≡ known files name

-- a table has what it had before, and of the name of one more file what this says, if it had nothing
abbrev pub AddsFile : List (Bor (List ℕ) × Bor BtxFile) → List (Bor (List ℕ) × Bor BtxFile) → BtxFile → Type 0
AddsFile before after file = (name : List ℕ) → said_in after name ≡ option_or (said_in before name) (known (file ∷ []) name)
