use Rattle.std.proofs.Common.{◌-◌, drop, Some}
use Rattle.btx_machine.specs.language.Commands.{visit}
use Rattle.btx_machine.specs.refinement.Progress.{Midway}
use Rattle.btx_machine.proofs.VisitLemmas.{Remains}
use Rattle.btx_where.proofs.visits.visit_all.Given as goal

-- the entries that are left remain to be visited
abbrev pub invariant-loop-entry : goal.invariant-loop-entry
invariant-loop-entry g l = Midway l.fn.work l.work l.marks l.fn.left l.left
    (Remains (λ entry. visit l.program.job.now l.command l.function (Some entry)) (drop l.entry-index l.list) l.list (l.fn.left - l.left))
