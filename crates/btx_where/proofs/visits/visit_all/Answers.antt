use Rattle.std.proofs.Common.{arith, ◌-◌, ◌+◌, drop, Some}
use Rattle.std.proofs.lemmas.List.{drop_all}
use Rattle.btx_machine.specs.language.Commands.{visit}
use Rattle.btx_machine.proofs.SayLemmas.{drop_step}
use Rattle.btx_machine.proofs.VisitLemmas as by
use Rattle.btx_where.proofs.RestLemmas.{one_stands}
use Rattle.btx_where.proofs.visits.visit_all.Goals as goal

pub returns-in_default-clause-stands : goal.returns-in_default-clause-stands
returns-in_default-clause-stands g c = λ running here. one_stands c.args.program.job.now c.args.program.code.now c.visit.new.at
    c.visit.new.marks c.args.work.now
    c.loop-entry.work c.visit.new.work (c.args.left.now - c.loop-entry.left) (c.loop-entry.left - c.visit.new.left) (c.args.left.now - c.visit.new.left)
    (omega (arith, c.loop-entry.invariant.fewer, c.visit.ensures.fewer)) c.args.command c.args.function running _
    (drop c.loop-entry.entry-index c.args.list.now)
    (drop (c.loop-entry.entry-index + 1) c.args.list.now) c.args.list.now (drop_step c.args.list.now c.loop-entry.entry-index _ (omega arith))
    (c.in_ok-end.ensures.here running here) c.loop-entry.invariant.same (c.in_ok-end.ensures.stands running here)

pub loop-entry-preserved : goal.loop-entry-preserved
loop-entry-preserved g c = by.one_visited c.args.program.job.now c.args.command c.args.function c.args.list.now c.loop-entry.invariant
    (drop_step c.args.list.now c.loop-entry.entry-index _ (omega arith)) (c.in_ok-end.ensures.cleared c.in-Finished.is) c.visit.ensures.fewer
    c.in_ok-end.ensures.writes (c.in_ok-end.ensures.finishes c.in-Finished.is)

pub returns-clause-finishes : goal.returns-clause-finishes
returns-clause-finishes g c = λ finished. by.none_remain (λ entry. visit c.args.program.job.now c.args.command c.args.function (Some entry))
    (drop c.loop-entry.entry-index c.args.list.now) c.args.list.now c.args.work.now c.loop-entry.work (c.args.left.now - c.loop-entry.left)
    (drop_all c.loop-entry.entry-index c.args.list.now (omega arith)) c.loop-entry.invariant.same
