use Rattle.std.proofs.Common.{◌≡◌, drop}
use Rattle.btx_machine.proofs.Common.{NoneFailed, note_lines}
use Rattle.btx_machine.specs.refinement.Places.{HandsInItem, MetWhile}
use Rattle.btx_machine.proofs.SayLemmas.{Logs}
use Rattle.btx_machine.proofs.outputs.Outputs.note_all.Given as goal

-- the lines of the notes that are left remain to be logged
abbrev pub invariant-loop-note : goal.invariant-loop-note
invariant-loop-note g l = record {
  breaker : l.self.breaker ≡ l.fn.self.breaker;
  counts : NoneFailed l.fn.self l.self;
  same : Logs l.fn.self l.self (note_lines l.fn.job l.fn.executed l.fn.current (drop l.note-index l.notes))
      (note_lines l.fn.job l.fn.executed l.fn.current l.notes);
  handed : HandsInItem l.fn.self.log l.self.log (MetWhile l.fn.job l.fn.executed l.fn.current l.fn.standing (note_lines l.fn.job l.fn.executed l.fn.current l.notes));
}
