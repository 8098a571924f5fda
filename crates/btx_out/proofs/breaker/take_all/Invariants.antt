use Rattle.std.proofs.Common.{◌≡◌, ◌≤◌, length}
use Rattle.arrayvec.specs.ArrayVec.{array_vec_len}
use Rattle.btx_out.specs.refinement.Parts.{Advances, left_of}
use Rattle.btx_out.proofs.breaker.take_all.Given as goal

-- the bytes before `rest` were taken, and no write has failed
abbrev pub invariant-loop-rest : goal.invariant-loop-rest
invariant-loop-rest g l =
    let sink = g.W.Sink in
    record {
      fits : array_vec_len l.line ≤ l.line_length;
      goes_on : Advances l.line_length (left_of l.initial.state l.initial.line.items) l.bytes (left_of l.state l.line.items) l.rest
          (sink.received l.initial.sink) (sink.received l.sink);
      counts : (sink.failures l.sink).count ≡ (sink.failures l.initial.sink).count;
    }

abbrev pub decreases-loop-rest : goal.decreases-loop-rest
decreases-loop-rest g l = length l.rest
