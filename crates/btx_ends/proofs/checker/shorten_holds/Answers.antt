use Rattle.std.proofs.Common.{rules}
use Rattle.btx_ends.specs.Certificates.{measures_by}
use Rattle.btx_ends.specs.Shortening.{kinds_by, effects_by}
use Rattle.btx_ends.proofs.CodeLemmas.{shorten_by}
use Rattle.btx_ends.proofs.checker.shorten_holds.Goals as goal

pub returns : goal.returns
returns c = λ t.
    shorten_by c.args.style.now (measures_by c.args.measures.now) (kinds_by c.as_slice.result.now) (effects_by c.as_slice-effects.result.now) c.args.claim
    c.args.number c.measure_of-m.result (search rules) c.measure_of-m.ensures (c.lessens_by.ensures t)
