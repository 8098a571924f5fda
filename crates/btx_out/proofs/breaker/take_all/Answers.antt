use Rattle.std.proofs.Common.{◌≡◌, length, rules, tests}
use Rattle.btx_out.proofs.GoingOnLemmas.{goes_further, goes_all, goes_partly}
use Rattle.btx_out.proofs.breaker.take_all.Goals as goal

pub loop-rest-preserved : goal.loop-rest-preserved
loop-rest-preserved g c = record {
  fits = c.in_ok-next.ensures.fits;
  goes_on = goes_further _ _ _ _ _ _ _ _ _ _ c.loop-rest.invariant.goes_on c.in_ok-next.ensures.goes_on;
  counts = search rules;
}

pub returns-in_err-next-clause-err : goal.returns-in_err-next-clause-err
returns-in_err-next-clause-err g c =
    let h = goes_partly _ _ _ _ _ _ _ _ c.loop-rest.invariant.goes_on c.in_err-next.ensures.err in search rules

pub returns-clause-state : goal.returns-clause-state
returns-clause-state g c =
    let none : length c.loop-rest.rest.now ≡ 0 = search (rules, tests) in
    (goes_all _ _ _ _ _ _ _ none c.loop-rest.invariant.goes_on).0

pub returns-clause-ok : goal.returns-clause-ok
returns-clause-ok g c =
    let none : length c.loop-rest.rest.now ≡ 0 = search (rules, tests) in
    (goes_all _ _ _ _ _ _ _ none c.loop-rest.invariant.goes_on).1
