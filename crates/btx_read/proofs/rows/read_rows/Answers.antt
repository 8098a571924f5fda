use Rattle.std.proofs.Common.{◌++◌, ◌∙◌, ℕ, List, ap, length}
use Rattle.std.specs.List.{flat_map}
use Rattle.btx_read.specs.declared.record.Record.{Record}
use Rattle.btx_read.specs.declared.row.Row.{Row}
use Rattle.btx_read.specs.Rows.{rows_along, texts_of}
use Rattle.btx_read.specs.Readings.{records_left}
use Rattle.btx_read.proofs.RecordLemmas.{whole-left}
use Rattle.btx_read.proofs.RowLemmas.{rows-next, texts-next}
use Rattle.btx_read.proofs.rows.read_rows.Goals as goal

pub loop-made-init : goal.loop-made-init
loop-made-init c =
    let file = c.args.file.now in
    let all = ap records_left c.of-reading.ensures ∙ whole-left c.args.strings c.args.text.now in
    record {
      rows = ap (λ (rows : List Row). rows ++ rows_along file (length c.new-2.result.items) (records_left c.of-reading.result)) c.new.ensures.items
          ∙ ap (λ (texts : List ℕ). rows_along file (length texts) (records_left c.of-reading.result)) c.new-2.ensures.items
          ∙ ap (rows_along file 0) all;
      texts = ap (λ (texts : List ℕ). texts ++ flat_map (texts_of file) (records_left c.of-reading.result)) c.new-2.ensures.items
          ∙ ap (flat_map (texts_of file)) all;
    }

pub loop-made-preserved : goal.loop-made-preserved
loop-made-preserved c =
    let invariant = c.loop-made.invariant in
    let file = c.args.file.now in
    let old = c.loop-made.made in
    let new = c.push.new.self in
    let next = rw c.in-Some.is at c.in_ok-record.ensures in
    let left = records_left c.loop-made.reading in
    let others = records_left c.read.new.self in
    record {
      rows = rows-next file c.in-Some.record left others next old.rows.items new.rows.items old.texts.items new.texts.items c.in_ok-push.ensures.rows
          c.in_ok-push.ensures.texts
          ∙ invariant.rows;
      texts = texts-next file c.in-Some.record left others next old.texts.items new.texts.items c.in_ok-push.ensures.texts ∙ invariant.texts;
    }
