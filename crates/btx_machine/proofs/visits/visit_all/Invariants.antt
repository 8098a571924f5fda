use Rattle.std.proofs.Common.{◌-◌, drop, Some}
use Rattle.btx_machine.proofs.Common.{visit, NoneFailed, Midway}
use Rattle.btx_machine.proofs.VisitLemmas.{Remains}
use Rattle.btx_machine.specs.refinement.Places.{MeetsInVisits}
use Rattle.btx_machine.proofs.visits.visit_all.Given as goal

-- the entries that are left remain to be visited
abbrev pub invariant-loop-entry : goal.invariant-loop-entry
invariant-loop-entry g l = record {
  midway : Midway l.fn.work l.work l.marks l.fn.left l.left
      (Remains (λ entry. visit l.program.job.now l.command l.function (Some entry)) (drop l.entry-index l.list) l.list (l.fn.left - l.left));
  met : MeetsInVisits l.program.job.now l.program.code.now l.command l.function l.list (l.fn.left - l.left) l.fn.work l.work;
  counts : NoneFailed l.fn.work.outputs l.work.outputs;
}
