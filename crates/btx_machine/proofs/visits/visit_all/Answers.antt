use Rattle.std.proofs.Common.{◌≡◌, ℕ, arith, rules, ◌-◌, ◌+◌, drop, Some, ap, refl}
use Rattle.std.proofs.lemmas.List.{drop_all}
use Rattle.btx_machine.proofs.Common.{Doing, in_order, state, visit}
use Rattle.btx_machine.proofs.OrderLemmas.{visit_grows}
use Rattle.btx_machine.proofs.ComesLemmas.{on_err}
use Rattle.btx_machine.proofs.HandLemmas.{hands_none}
use Rattle.btx_machine.proofs.SayLemmas.{drop_step}
use Rattle.btx_machine.proofs.WorkLemmas.{store_becomes}
use Rattle.btx_machine.proofs.VisitLemmas as by
use Rattle.btx_machine.proofs.VisitMeets.{next_visit, visits_failed}
use Rattle.btx_machine.proofs.visits.visit_all.Goals as goal

pub returns-in_err-end-clause-err : goal.returns-in_err-end-clause-err
returns-in_err-end-clause-err g c = on_err c.from_residual.result (by.one_fails (λ entry. visit c.args.program.job.now c.args.command c.args.function
    (Some entry)) _ (drop c.loop-entry.entry-index c.args.list.now) (drop (c.loop-entry.entry-index + 1) c.args.list.now) c.args.list.now c.args.work.now
    c.loop-entry.work c.visit.new.work.outputs (c.args.left.now - c.loop-entry.left) c.loop-entry.left c.args.left.now
    (omega (arith, c.loop-entry.invariant.midway.fewer)) (drop_step c.args.list.now c.loop-entry.entry-index _ (omega arith))
    (λ entry. visit_grows c.args.program.job.now c.args.command c.args.function (Some entry)) c.loop-entry.invariant.midway.same c.in_err-end.ensures.err)

pub returns-in_default-clause-outcome : goal.returns-in_default-clause-outcome
returns-in_default-clause-outcome g c = by.one_ends (λ entry. visit c.args.program.job.now c.args.command c.args.function (Some entry)) _
    (drop c.loop-entry.entry-index c.args.list.now) (drop (c.loop-entry.entry-index + 1) c.args.list.now) c.args.list.now c.args.work.now c.loop-entry.work
    c.visit.new.work (c.args.left.now - c.loop-entry.left) (c.loop-entry.left - c.visit.new.left) (c.args.left.now - c.visit.new.left) c.in_ok-end.end
    (omega (arith, c.loop-entry.invariant.midway.fewer, c.visit.ensures.fewer)) (drop_step c.args.list.now c.loop-entry.entry-index _ (omega arith))
    c.in_default.not-Finished c.loop-entry.invariant.midway.same c.in_ok-end.ensures.outcome

pub loop-entry-init : goal.loop-entry-init
loop-entry-init g c =
    let go : ℕ → Doing = λ entry. visit c.args.program.job.now c.args.command c.args.function (Some entry) in
    record {
      midway = record {
        marks = c.requires.empty;
        fewer = omega arith;
        writes = c.requires.writes;
        same = store_becomes c.args.work.now c.args.work.now (by.Remains go (drop 0 c.args.list.now) c.args.list.now (c.args.left.now - c.args.left.now)) refl
            (λ out n. let same : n ≡ n + (c.args.left.now - c.args.left.now) = omega arith in
            ap (λ b. in_order go c.args.list.now b (state c.args.work.now.store out)) same);
      };
      met = hands_none c.args.work.now.outputs.log;
      counts = ((refl, refl, refl), refl, refl, refl);
    }

pub loop-entry-preserved : goal.loop-entry-preserved
loop-entry-preserved g c = record {
  midway = by.one_visited c.args.program.job.now c.args.command c.args.function c.args.list.now c.loop-entry.invariant.midway
      (drop_step c.args.list.now c.loop-entry.entry-index _ (omega arith)) (c.in_ok-end.ensures.cleared c.in-Finished.is) c.visit.ensures.fewer
      c.in_ok-end.ensures.writes (rw c.in-Finished.is at c.in_ok-end.ensures.outcome);
  met = next_visit c.args.program.job.now c.args.program.code.now c.args.command c.args.function c.args.list.now (c.args.left.now - c.loop-entry.left) (c.args.left.now - c.visit.new.left)
      c.args.work.now c.loop-entry.work c.loop-entry.entry-index _ (drop (c.loop-entry.entry-index + 1) c.args.list.now) (c.loop-entry.left - c.visit.new.left)
      (drop_step c.args.list.now c.loop-entry.entry-index _ (omega arith)) (omega (arith, c.loop-entry.invariant.midway.fewer, c.visit.ensures.fewer)) c.loop-entry.invariant.midway.same c.visit.new.work
      c.loop-entry.invariant.met c.in_ok-end.ensures.met;
  counts = ((search rules, search rules, search rules), search rules, search rules, search rules);
}

pub returns-clause-outcome : goal.returns-clause-outcome
returns-clause-outcome g c = by.none_remain (λ entry. visit c.args.program.job.now c.args.command c.args.function (Some entry))
    (drop c.loop-entry.entry-index c.args.list.now) c.args.list.now c.args.work.now c.loop-entry.work (c.args.left.now - c.loop-entry.left)
    (drop_all c.loop-entry.entry-index c.args.list.now (omega arith)) c.loop-entry.invariant.midway.same

pub returns-in_err-end-clause-met : goal.returns-in_err-end-clause-met
returns-in_err-end-clause-met g c = visits_failed c.args.program.job.now c.args.program.code.now c.args.command c.args.function c.args.list.now c.args.left.now c.visit.new.left c.args.work.now
    c.visit.new.work c.from_residual.result c.from_residual.ensures.0 (next_visit c.args.program.job.now c.args.program.code.now c.args.command c.args.function c.args.list.now (c.args.left.now - c.loop-entry.left) c.args.left.now
    c.args.work.now c.loop-entry.work c.loop-entry.entry-index _ (drop (c.loop-entry.entry-index + 1) c.args.list.now) c.loop-entry.left
    (drop_step c.args.list.now c.loop-entry.entry-index _ (omega arith)) (omega (arith, c.loop-entry.invariant.midway.fewer)) c.loop-entry.invariant.midway.same c.visit.new.work
    c.loop-entry.invariant.met c.in_err-end.ensures.met)

pub returns-in_default-clause-met : goal.returns-in_default-clause-met
returns-in_default-clause-met g c = next_visit c.args.program.job.now c.args.program.code.now c.args.command c.args.function c.args.list.now (c.args.left.now - c.loop-entry.left) (c.args.left.now - c.visit.new.left)
    c.args.work.now c.loop-entry.work c.loop-entry.entry-index _ (drop (c.loop-entry.entry-index + 1) c.args.list.now) (c.loop-entry.left - c.visit.new.left)
    (drop_step c.args.list.now c.loop-entry.entry-index _ (omega arith)) (omega (arith, c.loop-entry.invariant.midway.fewer, c.visit.ensures.fewer)) c.loop-entry.invariant.midway.same c.visit.new.work
    c.loop-entry.invariant.met c.in_ok-end.ensures.met
