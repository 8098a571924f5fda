use Rattle.std.proofs.Common.{rules, ◌∙◌, refl, sym, [], ◌∷◌}
use Rattle.btx_out.proofs.PieceLemmas.{on_err}
use Rattle.btx_run.proofs.LoggingLemmas.{line_begins, line_begun, logs_line, logs_nothing, logs_one_more}
use Rattle.btx_machine.proofs.HandLemmas.{handed_then}
use Rattle.btx_run.proofs.MetLemmas.{hands_line, hands_nothing}
use Rattle.btx_run.proofs.files.logging.log_all.Goals as goal

pub loop-line-init : goal.loop-line-init
loop-line-init g c = record {
  logs = logs_nothing _ _;
  met = hands_nothing c.args.journal.now c.args.lines.now;
  sink = refl;
  failures = refl;
  joined = refl;
  wholeness = refl;
}

pub returns-in_err-log_one-clause-err : goal.returns-in_err-log_one-clause-err
returns-in_err-log_one-clause-err g c =
    on_err c.from_residual.result _
    (line_begins c.args.lines.now c.loop-line.line-index c.line-item.result _ _ _ _ _ c.loop-line-test.true c.line-item.is c.loop-line.invariant.logs
    (line_begun c.line-item.result _ _ c.in_err-log_one.ensures.err))

pub loop-line-preserved : goal.loop-line-preserved
loop-line-preserved g c = record {
  logs =
      logs_one_more c.args.lines.now c.loop-line.line-index c.line-item.result _ _ _ _ _ _ c.loop-line-test.true c.line-item.is c.loop-line.invariant.logs
      (logs_line c.line-item.result c.loop-line.journal c.log_one.new.self c.in_ok-log_one.ensures.ok c.log_one.ensures.warnings c.log_one.ensures.errors);
  met = handed_then c.loop-line.invariant.met (hands_line c.loop-line.journal c.log_one.new.self c.line-item.result c.args.lines.now c.log_one.ensures.noted
      c.log_one.ensures.handed (c.loop-line.line-index, c.loop-line-test.true, sym c.line-item.is));
  sink = c.log_one.ensures.sink ∙ c.loop-line.invariant.sink;
  failures = search rules;
  joined = c.log_one.ensures.joined ∙ c.loop-line.invariant.joined;
  wholeness = c.in_ok-log_one.ensures.whole ∙ c.loop-line.invariant.wholeness;
}

pub returns-in_err-log_one-clause-met : goal.returns-in_err-log_one-clause-met
returns-in_err-log_one-clause-met g c =
    handed_then c.loop-line.invariant.met (hands_line c.loop-line.journal c.log_one.new.self c.line-item.result c.args.lines.now c.log_one.ensures.noted
    c.log_one.ensures.handed (c.loop-line.line-index, c.loop-line-test.true, sym c.line-item.is))
