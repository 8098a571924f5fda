-- A worked database: its records, with their bytes and their lines.
use Rattle.std.specs.Prelude.{◌≡◌, ℕ, List, [], ◌∷◌, ◌++◌, Some, codes}
use Rattle.btx_bib.specs.declared.grammar.slip.SyntaxError.TheVariants.{EndOfFile}
use Rattle.btx_read.specs.declared.content.Content.{Content}
use Rattle.btx_read.specs.declared.content.Content.TheVariants.{Entry, Field, End, Wrong}
use Rattle.btx_read.specs.declared.record.Record.{Record}
use Rattle.btx_read.specs.Records.{records_of}

-- a database of three lines
abbrev pub worked_text : List ℕ
worked_text = codes "x @misc{k," ++ 10 ∷ codes " a = {b} , c=1}" ++ 10 ∷ codes "@MISC(K)"

-- a record that begins and ends after so many bytes, in this line
abbrev pub from_to : ℕ → ℕ → ℕ → Content → Record
from_to start end line content = record { content = content; start = start; end = end; line = line }

-- its records: an item begins at its `@`, a field at its name, an end is its closing delimiter, and what is wrong has no bytes
abbrev pub worked_records : List Record
worked_records =
    from_to 2 9 1 (Entry (codes "misc") (codes "k"))
    ∷ from_to 12 19 2 (Field (codes "a") (Some (codes "b")))
    ∷ from_to 22 25 2 (Field (codes "c") (Some (codes "1")))
    ∷ from_to 25 26 2 End
    ∷ from_to 27 35 3 (Entry (codes "MISC") (codes "K)"))
    ∷ from_to 35 35 3 (Wrong EndOfFile)
    ∷ []

-- they are the definition's
abbrev pub HasWorkedRecords : Type 0
HasWorkedRecords = records_of [] worked_text ≡ worked_records
