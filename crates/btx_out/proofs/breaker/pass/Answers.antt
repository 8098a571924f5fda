use Rattle.std.proofs.Common.{◌≡◌, ℕ, arith, ap, sym, ◌∙◌, length, rules}
use Rattle.btx_out.specs.language.Breaking.{from_white}
use Rattle.btx_out.proofs.BreakLemmas.{length-from_white}
use Rattle.btx_out.proofs.GoingOnLemmas.{goes_passed, goes_ended, fails_passed, fails_ended}
use Rattle.btx_out.proofs.breaker.pass.Goals as goal

pub returns-in_err-write_whole-clause-err : goal.returns-in_err-write_whole-clause-err
returns-in_err-write_whole-clause-err g c =
    let h = λ (line_length : ℕ). fails_passed line_length c.args.bytes.now _ _ (rw c.split_at_white.ensures.before at c.in_err-write_whole.ensures.err) in
    search rules

pub returns-in_default-clause-goes_on : goal.returns-in_default-clause-goes_on
returns-in_default-clause-goes_on g c line_length kept =
    let none : length (from_white c.args.bytes.now) ≡ 0 = rw (← c.split_at_white.ensures.from) c.in_default.ensures.cases in
    goes_passed line_length c.args.bytes.now _ _ none (rw c.split_at_white.ensures.before at c.in_ok-write_whole.ensures.ok)

pub returns-in_err-write_whole-2-clause-err : goal.returns-in_err-write_whole-2-clause-err
returns-in_err-write_whole-2-clause-err g c =
    let h = λ (line_length : ℕ). fails_ended line_length c.args.bytes.now _ _ _ _ _ (sym c.split_at_white.ensures.from ∙ c.in-Some.ensures.cases.0)
    (rw c.split_at_white.ensures.before at c.in_ok-write_whole.ensures.ok) c.in_err-write_whole-2.ensures.err in search rules

pub returns-clause-goes_on : goal.returns-clause-goes_on
returns-clause-goes_on g c line_length kept =
    goes_ended line_length c.args.bytes.now _ _ _ _ _ (sym c.split_at_white.ensures.from ∙ c.in-Some.ensures.cases.0)
    (rw c.split_at_white.ensures.before at c.in_ok-write_whole.ensures.ok) c.in_ok-write_whole-2.ensures.ok

pub returns-clause-fewer : goal.returns-clause-fewer
returns-clause-fewer g c = omega (arith, length-from_white c.args.bytes.now, ap length c.split_at_white.ensures.from, c.in-Some.ensures.cases.1)
