use Rattle.std.proofs.Common.{arith}
use Rattle.btx_names.proofs.ShortLemmas.{long_behind_space}
use Rattle.btx_names.proofs.writer.Writer.push_tie.Goals as goal

pub invariant_of-self : goal.invariant_of-self
invariant_of-self c =
    let old = c.args.self.now in
    let new = c.push.new.self in
    record {
      kept = new.kept;
      begun = new.begun;
      long = λ is more. rw (c.in_ok-push.ensures.start, c.in_ok-push.ensures.mode)
          (long_behind_space old.mode old.start old.text.items new.text.items more c.args.joint c.args.is_last c.tie_of-tie.result old.begun
          c.tie_of-tie.ensures (omega arith) c.in_ok-push.ensures.text);
    }
