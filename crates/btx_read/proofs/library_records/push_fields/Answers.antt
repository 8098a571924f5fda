use Rattle.std.proofs.Common.{arith, length}
use Rattle.btx_read.proofs.LibraryRecordLemmas.{adds-field, adds-no-field}
use Rattle.btx_read.proofs.library_records.push_fields.Goals as goal

pub loop-place-preserved : goal.loop-place-preserved
loop-place-preserved c =
    adds-field c.args.style.now c.args.entry.now c.loop-place.place (length c.args.style.now.names.fields) c.loop-place.made c.push_field.new.made
    (omega (arith, c.fields-place-end.ensures, c.loop-place-test.true)) (rw c.in_ok-number.ensures at c.in_ok-push_field.ensures) _ _ c.loop-place.invariant

pub returns : goal.returns
returns c =
    c.loop-place.invariant c.loop-place.made
    (adds-no-field c.args.style.now c.args.entry.now c.loop-place.place (length c.args.style.now.names.fields) c.loop-place.made c.loop-place.made
    (omega (arith, c.fields-place-end.ensures, c.loop-place-test.false)))
