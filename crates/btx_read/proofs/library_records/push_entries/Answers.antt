use Rattle.std.proofs.Common.{arith}
use Rattle.btx_read.proofs.LibraryRecordLemmas.{adds-entry, adds-no-entry}
use Rattle.btx_read.proofs.library_records.push_entries.Goals as goal

pub loop-entry-preserved : goal.loop-entry-preserved
loop-entry-preserved c =
    adds-entry c.args.style.now c.args.entries.now c.loop-entry.entry-index c.loop-entry.made c.push_entry.new.made c.entry-item.result (omega arith)
    c.entry-item.is c.in_ok-push_entry.ensures _ _ c.loop-entry.invariant

pub returns : goal.returns
returns c =
    c.loop-entry.invariant c.loop-entry.made
    (adds-no-entry c.args.style.now c.args.entries.now c.loop-entry.entry-index c.loop-entry.made c.loop-entry.made (omega arith))
