use Rattle.std.proofs.Common.{◌≡◌, true, false, [], drop, refl, sym}
use Rattle.std.proofs.lemmas.List.{append-nil}
use Rattle.btx_names.specs.language.FormattedNames.{is_short}
use Rattle.btx_names.proofs.writer.Writer.is_short.Goals as goal

pub returns-else-not-self : goal.returns-else-not-self
returns-else-not-self c =
    let writer = c.args.self.now in
    let long : writer.is_long ≡ true = search c.if-not-self.false in
    let more = writer.long (rw long refl) [] in
    let short : is_short writer.mode (drop writer.start writer.text.items) ≡ false = rw (append-nil (drop writer.start writer.text.items)) at more in
    rw long (sym short)
