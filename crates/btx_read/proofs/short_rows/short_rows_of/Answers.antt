use Rattle.std.proofs.Common.{◌++◌, ◌∙◌, ℕ, List, ap, length, map}
use Rattle.std.specs.List.{flat_map}
use Rattle.btx_read.specs.declared.short_rows.ShortRow.{ShortRow}
use Rattle.btx_read.specs.Rows.{texts_of}
use Rattle.btx_read.specs.Readings.{records_left}
use Rattle.btx_read.specs.ShortRows.{short_of}
use Rattle.btx_read.proofs.RecordLemmas.{whole-left}
use Rattle.btx_read.proofs.RowLemmas.{texts-next}
use Rattle.btx_read.proofs.ShortRowLemmas.{short-next}
use Rattle.btx_read.proofs.short_rows.short_rows_of.Goals as goal

pub loop-made-init : goal.loop-made-init
loop-made-init c =
    let file = c.args.file.now in
    let all = ap records_left c.of-reading.ensures ∙ whole-left c.args.strings c.args.text.now in
    record {
      rows = ap (λ (rows : List ShortRow). rows ++ map (short_of file) (records_left c.of-reading.result)) c.new.ensures.items
          ∙ ap (map (short_of file)) all;
      texts = ap (λ (texts : List ℕ). texts ++ flat_map (texts_of file) (records_left c.of-reading.result)) c.new-2.ensures.items
          ∙ ap (flat_map (texts_of file)) all;
    }

pub loop-made-preserved : goal.loop-made-preserved
loop-made-preserved c =
    let invariant = c.loop-made.invariant in
    let file = c.args.file.now in
    let old = c.loop-made.made in
    let new = c.push.new.self in
    let next = rw c.in-Some.is at c.in_ok-record.ensures in
    let left = records_left c.loop-made.reading in
    let others = records_left c.read_event.new.self in
    let kept = c.in_ok-push_plain_fields.ensures in
    record {
      rows = kept.rows_are ∙ short-next file c.in-Some.record left others next old.rows.items new.rows.items c.in_ok-push.ensures.rows ∙ invariant.rows;
      texts = kept.texts_are ∙ texts-next file c.in-Some.record left others next old.texts.items new.texts.items c.in_ok-push.ensures.texts ∙ invariant.texts;
    }
