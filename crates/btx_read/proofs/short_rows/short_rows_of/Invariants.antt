use Rattle.std.proofs.Common.{◌≡◌, ◌++◌, length, map}
use Rattle.std.specs.List.{flat_map}
use Rattle.btx_read.specs.Records.{records_of}
use Rattle.btx_read.specs.Rows.{texts_of}
use Rattle.btx_read.specs.Readings.{records_left}
use Rattle.btx_read.specs.ShortRows.{short_of}
use Rattle.btx_read.proofs.short_rows.short_rows_of.Given as goal

-- the rows and texts so far, and those of the records that are left, are all of them
abbrev pub invariant-loop-made : goal.invariant-loop-made
invariant-loop-made l = record {
  rows : l.made.rows.items ++ map (short_of l.file) (records_left l.reading) ≡ map (short_of l.file) (records_of l.fn.strings l.text);
  texts : l.made.texts.items ++ flat_map (texts_of l.file) (records_left l.reading) ≡ flat_map (texts_of l.file) (records_of l.fn.strings l.text);
}

abbrev pub decreases-loop-made : goal.decreases-loop-made
decreases-loop-made l = length (records_left l.reading)
