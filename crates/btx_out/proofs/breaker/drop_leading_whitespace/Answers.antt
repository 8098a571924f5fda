use Rattle.std.proofs.Common.{◌≡◌, arith, ap, sym, refl, ◌∙◌, length}
use Rattle.btx_out.specs.language.Breaking.{skip_white}
use Rattle.btx_out.proofs.BreakLemmas.{length-skip_white}
use Rattle.btx_out.proofs.GoingOnLemmas.{goes_swallowed, goes_begun}
use Rattle.btx_out.proofs.breaker.drop_leading_whitespace.Goals as goal

pub returns-in_default-clause-goes_on : goal.returns-in_default-clause-goes_on
returns-in_default-clause-goes_on c line_length received =
    let none : length (skip_white c.args.bytes.now) ≡ 0 = rw (← c.after_white.ensures) c.in_default.ensures.cases in
    goes_swallowed line_length c.args.bytes.now received none

pub returns-clause-goes_on : goal.returns-clause-goes_on
returns-clause-goes_on c line_length received =
    goes_begun line_length c.args.bytes.now _ _ _ received (sym c.after_white.ensures ∙ c.in-Some.ensures.cases.0)
    (rw (c.push-3.ensures.items, c.push-2.ensures.items, c.push.ensures.items, c.clear.ensures) refl)

pub returns-clause-fewer : goal.returns-clause-fewer
returns-clause-fewer c = omega (arith, length-skip_white c.args.bytes.now, ap length c.after_white.ensures, c.in-Some.ensures.cases.1)
