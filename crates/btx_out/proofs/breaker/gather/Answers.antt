use Rattle.std.proofs.Common.{arith}
use Rattle.btx_out.proofs.GoingOnLemmas.{goes_further}
use Rattle.btx_out.proofs.breaker.gather.Goals as goal

pub loop-line-preserved : goal.loop-line-preserved
loop-line-preserved c =
    let more = c.gathers_more.ensures c.loop-line-test.true in
    let before = rw more.0 at c.loop-line.invariant.goes_on in
    record {
      fits = c.collect-next-in-loop-line.ensures.fits;
      fewer = omega (arith, c.collect-next-in-loop-line.ensures.fewer, c.loop-line.invariant.fewer);
      goes_on = goes_further _ _ _ _ _ _ _ _ _ _ before c.collect-next-in-loop-line.ensures.goes_on;
    }
