-- Short rows that are made while a database is read.
use Rattle.std.specs.Prelude.{◌≡◌, ◌≤◌, ◌++◌, ℕ, List, length, map}
use Rattle.std.specs.List.{flat_map}
use Rattle.btx_read.specs.declared.short_rows.ShortRow.{ShortRow}
use Rattle.btx_read.specs.declared.short_rows.ShortRows.{ShortRows}
use Rattle.btx_read.specs.Readings.{Reading, records_left}
use Rattle.btx_read.specs.Rows.{texts_of}
use Rattle.btx_read.specs.ShortRows.{short_of}

-- the rows that were made, and those of the records that are left
abbrev pub all_rows : List ℕ → Reading × ShortRows → List ShortRow
all_rows file at = at.1.rows.items ++ map (short_of file) (records_left at.0)

-- the texts that were made, and those of the records that are left
abbrev pub all_texts : List ℕ → Reading × ShortRows → List ℕ
all_texts file at = at.1.texts.items ++ flat_map (texts_of file) (records_left at.0)

-- records were read and their rows made: all rows and texts are the same, and no more records are left
pub record KeepsRows (file : List ℕ) (old new : Reading × ShortRows) : Type 0 where
  pub rows_are : all_rows file new ≡ all_rows file old
  pub texts_are : all_texts file new ≡ all_texts file old
  pub left_is : length (records_left new.0) ≤ length (records_left old.0)
