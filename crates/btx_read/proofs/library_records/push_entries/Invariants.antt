use Rattle.std.proofs.Common.{drop}
use Rattle.std.specs.List.{flat_map}
use Rattle.btx_read.specs.declared.rows.Rows.{Rows}
use Rattle.btx_read.specs.LibraryRecords.{Adds, entry_records}
use Rattle.btx_read.proofs.library_records.push_entries.Given as goal

-- what the entries that are left add is added to what the others have added
abbrev pub invariant-loop-entry : goal.invariant-loop-entry
invariant-loop-entry l =
    (last : Rows) → Adds (flat_map (entry_records l.style) (drop l.entry-index l.entries)) l.made last
    → Adds (flat_map (entry_records l.style) l.entries) l.initial.made last
