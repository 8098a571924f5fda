use Rattle.std.proofs.Common.{rules}
use Rattle.btx_ends.specs.Certificates.{replacements_by}
use Rattle.btx_ends.specs.Shortening.{kinds_by, effects_by}
use Rattle.btx_ends.proofs.PileLemmas.{replace_by}
use Rattle.btx_ends.proofs.replacements.replace_holds.Goals as goal

pub returns : goal.returns
returns c = λ t.
    replace_by c.args.style.now (replacements_by c.args.replacements.now) (kinds_by c.as_slice.result.now) (effects_by c.as_slice-2.result.now)
    (effects_by c.as_slice-3.result.now) c.args.claim c.args.number c.replacement_of.result (search rules) c.replacement_of.ensures
    (c.replaces_by.ensures t)
