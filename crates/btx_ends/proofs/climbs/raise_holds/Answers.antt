use Rattle.std.proofs.Common.{rules}
use Rattle.btx_ends.specs.Certificates.{climbs_by}
use Rattle.btx_ends.specs.Shortening.{kinds_by, effects_by}
use Rattle.btx_ends.proofs.CodeLemmas.{raise_by}
use Rattle.btx_ends.proofs.climbs.raise_holds.Goals as goal

pub returns : goal.returns
returns c = λ t.
    raise_by c.args.style.now (climbs_by c.args.climbs.now) (kinds_by c.as_slice.result.now) (effects_by c.as_slice-2.result.now)
    (effects_by c.as_slice-3.result.now) c.args.claim c.args.number c.climb_of.result (search rules) c.climb_of.ensures
    (c.raises_by.ensures t)
