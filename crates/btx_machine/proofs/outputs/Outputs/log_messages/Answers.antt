use Rattle.std.proofs.Common.{arith, rules, ◌+◌, drop, map, refl, ap, sym}
use Rattle.std.proofs.lemmas.List.{drop_all}
use Rattle.btx_machine.proofs.Common.{message_line}
use Rattle.btx_machine.proofs.ComesLemmas.{on_err}
use Rattle.btx_machine.proofs.HandLemmas.{hands_none, hands_one, hands_then}
use Rattle.btx_machine.proofs.SayLemmas as by
use Rattle.btx_machine.proofs.SayLemmas.{logging_at}
use Rattle.btx_machine.proofs.outputs.Outputs.log_messages.Goals as goal

pub loop-message-init : goal.loop-message-init
loop-message-init g c = record {
  breaker = refl;
  counts = ((refl, refl, refl), refl, refl, refl);
  same =
      by.logs_first c.args.self.now (map message_line (drop 0 c.args.messages.now)) (map message_line c.args.messages.now) refl;
  handed = hands_none c.args.self.now.log;
}

pub returns-in_err-line-clause-err : goal.returns-in_err-line-clause-err
returns-in_err-line-clause-err g c =
    on_err c.from_residual.result (by.logs_none c.args.self.now c.loop-message.self (map message_line (drop c.loop-message.message-index c.args.messages.now))
    (map message_line c.args.messages.now) c.loop-message.invariant.same)

pub loop-message-preserved : goal.loop-message-preserved
loop-message-preserved g c = record {
  breaker = search rules;
  counts = ((search rules, search rules, search rules), search rules, search rules, search rules);
  same = by.logs_more c.args.self.now c.loop-message.self c.log_one.new.self c.in_ok-line.line
      (map message_line (drop c.loop-message.message-index c.args.messages.now))
      (map message_line (drop (c.loop-message.message-index + 1) c.args.messages.now)) (map message_line c.args.messages.now)
      (logging_at c.args.messages.now c.loop-message.message-index c.message-item.result c.message-item.is (omega arith) c.in_ok-line.line c.in_ok-line.ensures)
      c.loop-message.invariant.same c.in_ok-log_one.ensures.ok;
  handed = hands_then c.loop-message.invariant.handed (hands_one c.loop-message.self.log c.log_one.new.self.log _ _ c.log_one.ensures.noted
      c.log_one.ensures.handed c.log_one.ensures.item (record {
        message = c.message-item.result;
        is_one = (c.loop-message.message-index, omega arith, sym c.message-item.is);
        is_line = c.in_ok-line.ensures;
        position = _;
        about_it = refl;
        is_there = c.position_of.ensures;
      }) tt);
}

pub returns-in_err-log_one-clause-err : goal.returns-in_err-log_one-clause-err
returns-in_err-log_one-clause-err g c =
    on_err c.from_residual-in_err-log_one.result
    (by.logs_part c.args.self.now c.loop-message.self c.log_one.new.self c.in_ok-line.line
    (map message_line (drop c.loop-message.message-index c.args.messages.now)) (map message_line (drop (c.loop-message.message-index + 1) c.args.messages.now))
    (map message_line c.args.messages.now)
    (logging_at c.args.messages.now c.loop-message.message-index c.message-item.result c.message-item.is (omega arith) c.in_ok-line.line c.in_ok-line.ensures)
    c.loop-message.invariant.same c.in_err-log_one.ensures.err)

pub returns-clause-ok : goal.returns-clause-ok
returns-clause-ok g c = by.logs_all c.args.self.now c.loop-message.self (map message_line (drop c.loop-message.message-index c.args.messages.now))
    (map message_line c.args.messages.now) (ap (map message_line) (drop_all c.loop-message.message-index c.args.messages.now (omega arith)))
    c.loop-message.invariant.same

pub returns-in_err-log_one-clause-handed : goal.returns-in_err-log_one-clause-handed
returns-in_err-log_one-clause-handed g c =
    hands_then c.loop-message.invariant.handed (hands_one c.loop-message.self.log c.log_one.new.self.log _ _ c.log_one.ensures.noted
    c.log_one.ensures.handed c.log_one.ensures.item (record {
      message = c.message-item.result;
      is_one = (c.loop-message.message-index, omega arith, sym c.message-item.is);
      is_line = c.in_ok-line.ensures;
      position = _;
      about_it = refl;
      is_there = c.position_of.ensures;
    }) tt)
