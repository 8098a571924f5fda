-- What a finder has. A finder is where a run gets its files from, by name: a folder, or files in memory. (The trait that it meets is `Finder`.)
use Rattle.std.specs.Prelude.{ℕ, Bool, true, false, List, Option, None, Some}

-- for each name the file's bytes, or that there is no such file
abbrev pub Files : Type 0
Files = List ℕ → Option (List ℕ)

-- the file that a fetch has found, or that it found none
abbrev pub file_of : Bool → List ℕ → Option (List ℕ)
file_of true bytes = Some bytes
file_of false bytes = None
