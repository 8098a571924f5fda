use Rattle.std.proofs.Common.{◌∙◌, ap, arith, length}
use Rattle.btx_read.specs.Readings.{records_left}
use Rattle.btx_read.proofs.RowLemmas.{texts-next}
use Rattle.btx_read.proofs.ShortRowLemmas.{short-next}
use Rattle.btx_read.proofs.short_rows.push_plain_fields.Goals as goal

pub loop-record-preserved : goal.loop-record-preserved
loop-record-preserved c =
    let invariant = c.loop-record.invariant in
    let file = c.args.file.now in
    let old = c.loop-record.made in
    let new = c.push.new.self in
    let next = rw c.in-Some.is at c.in_ok-record.ensures in
    let left = records_left c.loop-record.reading in
    let others = records_left c.read_plain_field.new.self in
    record {
      rows_are = short-next file c.in-Some.record left others next old.rows.items new.rows.items c.in_ok-push.ensures.rows ∙ invariant.rows_are;
      texts_are = texts-next file c.in-Some.record left others next old.texts.items new.texts.items c.in_ok-push.ensures.texts ∙ invariant.texts_are;
      left_is = omega (arith, ap length next, invariant.left_is);
    }
