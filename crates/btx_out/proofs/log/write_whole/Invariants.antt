use Rattle.std.proofs.Common.{length, ◌-◌, ◌≡◌, ◌≤◌, take}
use Rattle.std.specs.Io.KnownBytes.{Appends}
use Rattle.btx_out.proofs.log.write_whole.Given as goal

-- so far the bytes before `at` were received, and no write has failed
abbrev pub invariant-loop-at : goal.invariant-loop-at
invariant-loop-at g l =
    let sink = g.S.Sink in
    record {
      within : l.at ≤ length l.bytes;
      received : Appends (sink.received l.initial.sink) (sink.received l.sink) (take l.at l.bytes);
      failures : (sink.failures l.sink).count ≡ (sink.failures l.initial.sink).count;
    }

abbrev pub decreases-loop-at : goal.decreases-loop-at
decreases-loop-at g l = length l.bytes - l.at
