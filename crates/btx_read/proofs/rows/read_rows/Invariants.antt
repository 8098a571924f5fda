use Rattle.std.proofs.Common.{◌≡◌, ◌++◌, length}
use Rattle.std.specs.List.{flat_map}
use Rattle.btx_read.specs.Records.{records_of}
use Rattle.btx_read.specs.Rows.{rows_along, texts_of}
use Rattle.btx_read.specs.Readings.{records_left}
use Rattle.btx_read.proofs.rows.read_rows.Given as goal

-- the rows and texts so far, and those of the records that are left, are all of them
abbrev pub invariant-loop-made : goal.invariant-loop-made
invariant-loop-made l = record {
  rows : l.made.rows.items ++ rows_along l.file (length l.made.texts.items) (records_left l.reading) ≡ rows_along l.file 0 (records_of l.fn.strings l.text);
  texts : l.made.texts.items ++ flat_map (texts_of l.file) (records_left l.reading) ≡ flat_map (texts_of l.file) (records_of l.fn.strings l.text);
}

abbrev pub decreases-loop-made : goal.decreases-loop-made
decreases-loop-made l = length (records_left l.reading)
