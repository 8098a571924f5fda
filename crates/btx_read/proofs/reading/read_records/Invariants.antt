use Rattle.std.proofs.Common.{◌≡◌, ◌++◌, length}
use Rattle.btx_read.specs.Records.{records_of}
use Rattle.btx_read.specs.Readings.{records_left}
use Rattle.btx_read.proofs.reading.read_records.Given as goal

-- the records so far and those that are left are all of them
abbrev pub invariant-loop-records : goal.invariant-loop-records
invariant-loop-records l = l.records.items ++ records_left l.reading ≡ records_of l.fn.strings l.fn.text

abbrev pub decreases-loop-records : goal.decreases-loop-records
decreases-loop-records l = length (records_left l.reading)
