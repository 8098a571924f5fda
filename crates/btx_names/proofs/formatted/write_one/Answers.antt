use Rattle.std.proofs.Common.{refl}
use Rattle.btx_names.specs.refinement.KeptNames.{kept_bytes, kept_parts}
use Rattle.btx_names.proofs.FormattedLemmas.{written_right}
use Rattle.btx_names.proofs.formatted.write_one.Goals as goal

pub returns : goal.returns
returns c =
    written_right c.write_format.result c.args.mode (kept_bytes c.args.name.now) c.args.format.now c.write_format.new.writer.text.items
    (kept_parts c.args.name.now) c.is_wrong.result
    (rw c.begin.ensures.mode at c.write_format.ensures) refl c.is_wrong.ensures c.if-is_wrong.false
