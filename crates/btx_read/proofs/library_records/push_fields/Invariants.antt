use Rattle.std.proofs.Common.{◌-◌, length}
use Rattle.btx_read.specs.declared.rows.Rows.{Rows}
use Rattle.btx_read.specs.LibraryRecords.{Adds, fields_from}
use Rattle.btx_read.proofs.library_records.push_fields.Given as goal

-- what the fields that are left add is added to what the others have added
abbrev pub invariant-loop-place : goal.invariant-loop-place
invariant-loop-place l =
    let count = length l.style.names.fields in
    (last : Rows) → Adds (fields_from l.style l.entry l.place (count - l.place)) l.made last
    → Adds (fields_from l.style l.entry 0 count) l.initial.made last
