use Rattle.btx_machine.proofs.SayLemmas as by
use Rattle.btx_machine.proofs.SayLemmas.{on_ok_map}
use Rattle.btx_machine.proofs.ComesLemmas.{err_map}
use Rattle.btx_machine.proofs.HandLemmas.{hands_none, hands_same}
use Rattle.btx_machine.proofs.outputs.Outputs.say.Goals as goal

pub returns-in-Nothing-clause-ok : goal.returns-in-Nothing-clause-ok
returns-in-Nothing-clause-ok g c = by.nothing c.args.job.now c.args.executed.now c.args.current c.args.said c.in-Nothing.is c.args.self.now

pub returns-in-Wrote-clause-ok : goal.returns-in-Wrote-clause-ok
returns-in-Wrote-clause-ok g c = on_ok_map (by.wrote c.args.job.now c.args.executed.now c.args.current c.args.said c.args.self.now c.write.new.self
    c.in-Wrote.text c.as_bytes.result.now c.in-Wrote.is c.as_bytes.ensures.value) c.write.result c.write.ensures.ok

pub returns-in-Wrote-clause-err : goal.returns-in-Wrote-clause-err
returns-in-Wrote-clause-err g c = err_map (by.wrote_stops c.args.job.now c.args.executed.now c.args.current c.args.said c.args.self.now c.write.new.self
    c.in-Wrote.text c.as_bytes.result.now c.in-Wrote.is c.as_bytes.ensures.value) c.write.result c.write.ensures.err

pub returns-in-EndedLine-clause-ok : goal.returns-in-EndedLine-clause-ok
returns-in-EndedLine-clause-ok g c = on_ok_map (by.ended c.args.job.now c.args.executed.now c.args.current c.args.said c.args.self.now c.end_line.new.self
    c.in-EndedLine.is) c.end_line.result c.end_line.ensures.ok

pub returns-in-EndedLine-clause-err : goal.returns-in-EndedLine-clause-err
returns-in-EndedLine-clause-err g c = err_map (by.end_stops c.args.job.now c.args.executed.now c.args.current c.args.said c.args.self.now c.end_line.new.self
    c.in-EndedLine.is) c.end_line.result c.end_line.ensures.err

pub returns-in-Noted-clause-ok : goal.returns-in-Noted-clause-ok
returns-in-Noted-clause-ok g c = on_ok_map (λ h. by.noted c.args.job.now c.args.executed.now c.args.current c.args.said c.in-Noted.notes c.in-Noted.is
    c.args.self.now c.note_all.new.self (rw c.as_slice.ensures at h)) c.note_all.result c.note_all.ensures.ok

pub returns-in-Noted-clause-err : goal.returns-in-Noted-clause-err
returns-in-Noted-clause-err g c = err_map (λ h. by.note_stops c.args.job.now c.args.executed.now c.args.current c.args.said c.in-Noted.notes c.in-Noted.is
    c.args.self.now c.note_all.new.self (rw c.as_slice.ensures at h)) c.note_all.result c.note_all.ensures.err

pub returns-in-Nothing-clause-handed : goal.returns-in-Nothing-clause-handed
returns-in-Nothing-clause-handed g c = hands_none c.args.self.now.log

pub returns-in-Wrote-clause-handed : goal.returns-in-Wrote-clause-handed
returns-in-Wrote-clause-handed g c = hands_same c.args.self.now.log c.write.new.self.log c.write.ensures.log

pub returns-in-EndedLine-clause-handed : goal.returns-in-EndedLine-clause-handed
returns-in-EndedLine-clause-handed g c = hands_same c.args.self.now.log c.end_line.new.self.log c.end_line.ensures.log

pub returns-in-Noted-clause-handed : goal.returns-in-Noted-clause-handed
returns-in-Noted-clause-handed g c = rw c.in-Noted.is (rw c.as_slice.ensures at c.note_all.ensures.handed)
