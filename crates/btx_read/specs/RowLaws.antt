-- Rows show what the records say, and nothing else.
use Rattle.std.specs.Prelude.{◌≡◌, ℕ, List, map}
use Rattle.std.specs.List.{flat_map}
use Rattle.btx_read.specs.declared.record.Record.{Record}
use Rattle.btx_read.specs.Rows.{row_shows, rows_along, shown, texts_of}

-- the rows of records and the room of their texts show each record: what it is, its name and its text, its bytes and its line
abbrev pub RowsShowRecords : Type 0
RowsShowRecords = (file : List ℕ) (records : List Record) →
    map (row_shows (flat_map (texts_of file) records)) (rows_along file 0 records) ≡ map (shown file) records
