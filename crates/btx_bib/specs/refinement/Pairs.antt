-- The databases that the program is given, as borrowed pairs of name and bytes.
use Rattle.std.specs.Prelude.{ℕ, List, map}
use Rattle.std.specs.Borrow.{Bor}
use Rattle.btx_bib.specs.language.Messages.{Database}

-- the name of a file, and its bytes
abbrev pub BorrowedPair : Type 0
BorrowedPair = Bor (List ℕ) × Bor (List ℕ)

-- a pair as a database
abbrev pub database_of_pair : BorrowedPair → Database
database_of_pair pair = record { file = pair.0.now; text = pair.1.now }

abbrev pub databases_of_pairs : List BorrowedPair → List Database
databases_of_pairs pairs = map database_of_pair pairs
