use Rattle.std.proofs.Common.{refl, arith, ◌-◌}
use Rattle.btx_machine.proofs.ComesLemmas.{on_err}
use Rattle.btx_machine.proofs.VisitLemmas as by
use Rattle.btx_machine.proofs.VisitMeets.{after_function, in_function, visit_failed}
use Rattle.btx_machine.proofs.visits.visit.Goals as goal

pub returns-in_err-end-clause-err : goal.returns-in_err-end-clause-err
returns-in_err-end-clause-err g c = rw (← c.work.view_is) (on_err c.from_residual.result (by.visit_fails c.args.program.job.now c.args.command c.args.function
    c.args.entry (record { store = c.work.inside.store; outputs = c.work.inside.outputs }) (record {
      store = c.set_current.new.self;
      outputs =
          c.work.inside.outputs;
    }) refl c.set_current.ensures c.execute.new.work.outputs c.args.left.now c.in_err-end.ensures.err))

pub returns-in_err-clear-in-Finished-clause-err : goal.returns-in_err-clear-in-Finished-clause-err
returns-in_err-clear-in-Finished-clause-err g c = rw (← c.work.view_is) (on_err c.from_residual-in_err-clear-in-Finished.result
    (by.visit_clear_fails c.args.program.job.now c.args.command c.args.function c.args.entry (record {
      store = c.work.inside.store;
      outputs = c.work.inside.outputs;
    }) (record { store = c.set_current.new.self; outputs = c.work.inside.outputs }) refl c.set_current.ensures c.execute.new.work c.clear.new.self.outputs
    (c.args.left.now - c.execute.new.left) c.args.left.now (omega arith) (rw c.in-Finished.is at c.in_ok-end.ensures.outcome)
    c.in_err-clear-in-Finished.ensures.err))

pub returns-in_err-end-clause-met : goal.returns-in_err-end-clause-met
returns-in_err-end-clause-met g c = rw (← c.work.view_is) (visit_failed c.args.program.job.now c.args.program.code.now c.args.command c.args.function
    c.args.entry c.args.left.now c.execute.new.left (record { store = c.work.inside.store; outputs = c.work.inside.outputs })
    c.execute.new.work c.from_residual.result c.from_residual.ensures.0 (in_function c.args.program.job.now c.args.program.code.now c.args.command c.args.function c.args.entry
    (record { store = c.work.inside.store; outputs = c.work.inside.outputs }) (record { store = c.set_current.new.self; outputs = c.work.inside.outputs })
    refl c.set_current.ensures c.args.left.now c.execute.new.work c.in_err-end.ensures.met))

pub returns-in_err-clear-in-Finished-clause-met : goal.returns-in_err-clear-in-Finished-clause-met
returns-in_err-clear-in-Finished-clause-met g c = rw (← c.work.view_is) (visit_failed c.args.program.job.now c.args.program.code.now c.args.command c.args.function
    c.args.entry c.args.left.now c.execute.new.left (record { store = c.work.inside.store; outputs = c.work.inside.outputs })
    c.clear.new.self c.from_residual-in_err-clear-in-Finished.result c.from_residual-in_err-clear-in-Finished.ensures.0
    (after_function c.args.program.job.now c.args.program.code.now c.args.command c.args.function c.args.entry
    (record { store = c.work.inside.store; outputs = c.work.inside.outputs }) (record { store = c.set_current.new.self; outputs = c.work.inside.outputs })
    refl c.set_current.ensures (c.args.left.now - c.execute.new.left) c.args.left.now c.execute.new.work c.clear.new.self (omega arith)
    (rw c.in-Finished.is at c.in_ok-end.ensures.outcome) c.in_ok-end.ensures.met c.clear.ensures.handed))

pub returns-in_ok-clear-in-Finished-clause-met : goal.returns-in_ok-clear-in-Finished-clause-met
returns-in_ok-clear-in-Finished-clause-met g c = rw (← c.work.view_is) (after_function c.args.program.job.now c.args.program.code.now c.args.command c.args.function c.args.entry
    (record { store = c.work.inside.store; outputs = c.work.inside.outputs }) (record { store = c.set_current.new.self; outputs = c.work.inside.outputs })
    refl c.set_current.ensures (c.args.left.now - c.execute.new.left) (c.args.left.now - c.execute.new.left) c.execute.new.work c.clear.new.self (omega arith)
    (rw c.in-Finished.is at c.in_ok-end.ensures.outcome) c.in_ok-end.ensures.met c.clear.ensures.handed)

pub returns-in_default-clause-met : goal.returns-in_default-clause-met
returns-in_default-clause-met g c = rw (← c.work.view_is) (in_function c.args.program.job.now c.args.program.code.now c.args.command c.args.function c.args.entry
    (record { store = c.work.inside.store; outputs = c.work.inside.outputs }) (record { store = c.set_current.new.self; outputs = c.work.inside.outputs })
    refl c.set_current.ensures (c.args.left.now - c.execute.new.left) c.execute.new.work c.in_ok-end.ensures.met)
