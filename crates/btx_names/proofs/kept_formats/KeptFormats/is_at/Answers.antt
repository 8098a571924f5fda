use Rattle.std.proofs.Common.{◌≡◌, Some, refl, rules}
use Rattle.std.proofs.lemmas.Option.{slice_get_read}
use Rattle.std.specs.Prelude.{slice_get, length}
use Rattle.btx_names.proofs.kept_formats.KeptFormats.is_at.Goals as goal

pub returns-in-Some : goal.returns-in-Some
returns-in-Some c is =
    let formats = c.args.self.now.formats.items in
    let kept = c.in-Some.kept.now in
    let found = rw c.deref.ensures.value at c.in-Some.ensures.lookup.3 in
    let got : slice_get formats c.args.at ≡ Some kept = slice_get_read formats (length formats) c.args.at kept refl found.0 (found.1 kept) in
    let same : kept.text.items ≡ c.args.format.now = search rules in
    rw got same
