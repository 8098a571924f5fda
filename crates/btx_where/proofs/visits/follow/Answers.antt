use Rattle.std.proofs.Common.{◌-◌, refl, subst, sym}
use Rattle.btx_machine.specs.refinement.Marks.{StandInCode}
use Rattle.btx_where.proofs.StandLemmas.{visit_finishes, visit_stands}
use Rattle.btx_where.proofs.visits.follow.Goals as goal

pub execute-requires-clause-placed : goal.execute-requires-clause-placed
execute-requires-clause-placed g c = subst (StandInCode c.args.program.code.now c.beginning.result.place) (sym c.requires.empty) c.beginning.ensures.placed

pub returns-in-Stopped-clause-stands : goal.returns-in-Stopped-clause-stands
returns-in-Stopped-clause-stands g c = λ running here. rw (← c.work.view_is) (visit_stands c.args.program.job.now c.args.command c.args.function c.args.entry
    (record { store = c.work.inside.store; outputs = c.work.inside.outputs }) (record { store = c.set_current.new.self; outputs = c.work.inside.outputs }) refl
    c.set_current.ensures c.args.program.code.now c.beginning.result c.args.marks.now (c.beginning.ensures.means c.args.program.job.now) c.requires.empty
    c.execute.new.work c.execute.new.at c.execute.new.marks (c.args.left.now - c.execute.new.left) (c.in_ok-end.ensures.stands c.in-Stopped.is))

pub returns-in_ok-note_left-in-Finished-clause-finishes : goal.returns-in_ok-note_left-in-Finished-clause-finishes
returns-in_ok-note_left-in-Finished-clause-finishes g c = λ finished. rw (← c.work.view_is) (visit_finishes c.args.program.job.now c.args.command
    c.args.function c.args.entry (record { store = c.work.inside.store; outputs = c.work.inside.outputs }) (record {
      store = c.set_current.new.self;
      outputs =
          c.work.inside.outputs;
    }) refl c.set_current.ensures c.args.program.code.now c.beginning.result c.args.marks.now (c.beginning.ensures.means
    c.args.program.job.now) c.requires.empty c.execute.new.work c.clear.new.self (c.args.left.now - c.execute.new.left)
    (c.in_ok-end.ensures.finishes c.in-Finished.is) c.in_ok-clear-in-Finished.ensures.ok)
