use Rattle.std.proofs.Common.{◌++◌, ◌∙◌, ap}
use Rattle.btx_read.specs.Readings.{records_left}
use Rattle.btx_read.proofs.RecordLemmas.{whole-left}
use Rattle.btx_read.proofs.reading.read_records.Goals as goal

pub loop-records-init : goal.loop-records-init
loop-records-init c =
    ap (λ records. records ++ records_left c.of-reading.result) c.new-records.ensures.items
    ∙ ap records_left c.of-reading.ensures
    ∙ whole-left c.args.strings c.args.text.now
