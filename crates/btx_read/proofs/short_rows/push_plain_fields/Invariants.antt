use Rattle.std.proofs.Common.{length}
use Rattle.btx_read.specs.Readings.{records_left}
use Rattle.btx_read.specs.RowReadings.{KeepsRows}
use Rattle.btx_read.proofs.short_rows.push_plain_fields.Given as goal

-- no row and no text was lost so far
abbrev pub invariant-loop-record : goal.invariant-loop-record
invariant-loop-record l = KeepsRows l.file (l.initial.reading, l.initial.made) (l.reading, l.made)

abbrev pub decreases-loop-record : goal.decreases-loop-record
decreases-loop-record l = length (records_left l.reading)
