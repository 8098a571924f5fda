use Rattle.std.proofs.Common.{◌≡◌, drop, map}
use Rattle.btx_machine.proofs.Common.{message_line, NoneFailed}
use Rattle.btx_machine.specs.refinement.Places.{HandsInItem, MetOfMessages}
use Rattle.btx_machine.proofs.SayLemmas.{Logs}
use Rattle.btx_machine.proofs.outputs.Outputs.log_messages.Given as goal

-- the lines of the messages that are left are still to be written
abbrev pub invariant-loop-message : goal.invariant-loop-message
invariant-loop-message g l = record {
  breaker : l.self.breaker ≡ l.fn.self.breaker;
  counts : NoneFailed l.fn.self l.self;
  same : Logs l.fn.self l.self (map message_line (drop l.message-index l.messages)) (map message_line l.messages);
  handed : HandsInItem l.fn.self.log l.self.log (MetOfMessages l.messages);
}
