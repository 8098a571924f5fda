use Rattle.std.proofs.Common.{◌≡◌, ◌<◌, ◌∙◌, arith, false, length, set}
use Rattle.std.proofs.lemmas.List.{length-set}
use Rattle.btx_read.specs.declared.short_rows.ShortRow.{ShortRow}
use Rattle.btx_read.specs.ShortRows.{bytes_of_all}
use Rattle.btx_read.proofs.ShortRowLemmas.{bytes-left, one-put}
use Rattle.btx_read.proofs.short_rows.put_rows.Goals as goal

pub loop-place-preserved : goal.loop-place-preserved
loop-place-preserved c =
    let now = c.loop-place in
    let rows = c.as_slice-rows.result.now in
    let none : ShortRow = record { kind = 0; is_whole = false; start = 0; end = 0; line = 0; name_len = 0; text_len = 0 } in
    let below : now.place < length rows = omega (arith, c.loop-place-test.true, c.min-fits.ensures) in
    let within : now.place < length now.into = omega (arith, c.loop-place-test.true, c.min-fits.ensures, now.invariant.len) in
    record {
      within = omega (arith, c.loop-place-test.true);
      len = length-set now.into now.place c.row_from.result ∙ now.invariant.len;
      bytes = bytes-left rows now.place now.room none below (bytes_of_all rows) now.invariant.bytes;
      put = one-put rows now.place now.room none below now.into c.row_from.result c.row_from.ensures within ∙ now.invariant.put;
    }
