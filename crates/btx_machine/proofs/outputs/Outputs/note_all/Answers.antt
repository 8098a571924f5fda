use Rattle.std.proofs.Common.{arith, rules, ◌+◌, drop, refl, ap, sym, ◌∙◌, ◌≡◌}
use Rattle.std.proofs.lemmas.List.{drop_all}
use Rattle.btx_machine.proofs.Common.{note_lines}
use Rattle.btx_machine.proofs.ComesLemmas.{on_err}
use Rattle.btx_machine.proofs.HandLemmas.{hands_none, hands_one, hands_then, noted_among}
use Rattle.btx_machine.proofs.SayLemmas as by
use Rattle.btx_machine.proofs.SayLemmas.{noting_at}
use Rattle.btx_machine.proofs.outputs.Outputs.note_all.Goals as goal

pub loop-note-init : goal.loop-note-init
loop-note-init g c = record {
  breaker = refl;
  counts = ((refl, refl, refl), refl, refl, refl);
  same =
      by.logs_first c.args.self.now (note_lines c.args.job.now c.args.executed.now c.args.current (drop 0 c.args.notes.now))
      (note_lines c.args.job.now c.args.executed.now c.args.current c.args.notes.now) refl;
  handed = hands_none c.args.self.now.log;
}

pub returns-in_err-line-clause-err : goal.returns-in_err-line-clause-err
returns-in_err-line-clause-err g c =
    on_err c.from_residual.result (by.logs_none c.args.self.now c.loop-note.self
    (note_lines c.args.job.now c.args.executed.now c.args.current (drop c.loop-note.note-index c.args.notes.now))
    (note_lines c.args.job.now c.args.executed.now c.args.current c.args.notes.now) c.loop-note.invariant.same)

pub loop-note-preserved : goal.loop-note-preserved
loop-note-preserved g c = let item : c.item.result ≡ c.args.self.now.log.item = rw (← c.self.view_is) c.item.ensures in record {
  breaker = search rules;
  counts = ((search rules, search rules, search rules), search rules, search rules, search rules);
  same = by.logs_more c.args.self.now c.loop-note.self c.log_one.new.self c.in_ok-line.line
      (note_lines c.args.job.now c.args.executed.now c.args.current (drop c.loop-note.note-index c.args.notes.now))
      (note_lines c.args.job.now c.args.executed.now c.args.current (drop (c.loop-note.note-index + 1) c.args.notes.now))
      (note_lines c.args.job.now c.args.executed.now c.args.current c.args.notes.now)
      (noting_at c.args.job.now c.args.executed.now c.args.current c.args.notes.now c.loop-note.note-index c.note-item.result c.note-item.is (omega arith)
      c.in_ok-line.line c.style-style.result.now c.style-style.ensures _ c.key_at-key.ensures c.in_ok-line.ensures) c.loop-note.invariant.same
      c.in_ok-log_one.ensures.ok;
  handed = hands_then c.loop-note.invariant.handed (hands_one c.loop-note.self.log c.log_one.new.self.log _ _ c.log_one.ensures.noted c.log_one.ensures.handed c.log_one.ensures.item (record {
    executed = _;
    about_it = refl;
    is_style = c.style-style.ensures;
    has_key = c.key_at-key.ensures;
    is_named = refl;
    is_current = refl;
    stands = refl;
    is_said = noted_among c.args.job.now c.args.executed.now c.args.current c.args.notes.now c.loop-note.note-index c.note-item.result c.note-item.is
        (omega arith) c.in_ok-line.line c.style-style.result.now c.style-style.ensures _ c.key_at-key.ensures c.in_ok-line.ensures;
  }) (item ∙ sym c.loop-note.invariant.handed.same_item));
}

pub returns-in_err-log_one-clause-err : goal.returns-in_err-log_one-clause-err
returns-in_err-log_one-clause-err g c =
    on_err c.from_residual-in_err-log_one.result
    (by.logs_part c.args.self.now c.loop-note.self c.log_one.new.self c.in_ok-line.line
    (note_lines c.args.job.now c.args.executed.now c.args.current (drop c.loop-note.note-index c.args.notes.now))
    (note_lines c.args.job.now c.args.executed.now c.args.current (drop (c.loop-note.note-index + 1) c.args.notes.now))
    (note_lines c.args.job.now c.args.executed.now c.args.current c.args.notes.now)
    (noting_at c.args.job.now c.args.executed.now c.args.current c.args.notes.now c.loop-note.note-index c.note-item.result c.note-item.is (omega arith)
    c.in_ok-line.line c.style-style.result.now c.style-style.ensures _ c.key_at-key.ensures c.in_ok-line.ensures) c.loop-note.invariant.same
    c.in_err-log_one.ensures.err)

pub returns-clause-ok : goal.returns-clause-ok
returns-clause-ok g c = by.logs_all c.args.self.now c.loop-note.self
    (note_lines c.args.job.now c.args.executed.now c.args.current (drop c.loop-note.note-index c.args.notes.now))
    (note_lines c.args.job.now c.args.executed.now c.args.current c.args.notes.now)
    (ap (note_lines c.args.job.now c.args.executed.now c.args.current) (drop_all c.loop-note.note-index c.args.notes.now (omega arith)))
    c.loop-note.invariant.same

pub returns-in_err-log_one-clause-handed : goal.returns-in_err-log_one-clause-handed
returns-in_err-log_one-clause-handed g c =
    let item : c.item.result ≡ c.args.self.now.log.item = rw (← c.self.view_is) c.item.ensures in
    hands_then c.loop-note.invariant.handed (hands_one c.loop-note.self.log c.log_one.new.self.log _ _ c.log_one.ensures.noted c.log_one.ensures.handed c.log_one.ensures.item (record {
      executed = _;
      about_it = refl;
      is_style = c.style-style.ensures;
      has_key = c.key_at-key.ensures;
      is_named = refl;
      is_current = refl;
      stands = refl;
      is_said = noted_among c.args.job.now c.args.executed.now c.args.current c.args.notes.now c.loop-note.note-index c.note-item.result c.note-item.is
          (omega arith) c.in_ok-line.line c.style-style.result.now c.style-style.ensures _ c.key_at-key.ensures c.in_ok-line.ensures;
    }) (item ∙ sym c.loop-note.invariant.handed.same_item))
