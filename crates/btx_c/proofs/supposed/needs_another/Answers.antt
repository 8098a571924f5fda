use Rattle.std.proofs.Common.{arith}
use Rattle.btx_c.proofs.NeedsLemmas.{another_of}
use Rattle.btx_c.proofs.supposed.needs_another.Goals as goal

pub returns : goal.returns
returns c = λ differs.
    another_of c.args.index.now c.args.name.now _ c.in-Ok.absent.items c.in-Ok-log_if.empty.items c.in-Ok.ensures c.in-Ok-log_if.ensures
    (grind (arith, differs, c.ne.ensures, c.as_slice.ensures.value, c.as_slice-2.ensures.value))
