use Rattle.std.proofs.Common.{◌<◌, ◌≤◌, Some, length}
use Rattle.arrayvec.specs.ArrayVec.{array_vec_len}
use Rattle.btx_out.specs.laws.Breaking.{Collecting}
use Rattle.btx_out.specs.refinement.Parts.{Advances, left_of}
use Rattle.btx_out.proofs.breaker.gather.Given as goal

-- the bytes before `next.rest` were taken
abbrev pub invariant-loop-line : goal.invariant-loop-line
invariant-loop-line l = record {
  fits : array_vec_len l.line ≤ l.line_length;
  fewer : length l.next.rest.now < length l.bytes;
  goes_on : Advances l.line_length (Collecting l.fn.line.items) l.bytes (left_of l.next.state l.line.items) l.next.rest.now (Some l.fn.gathered.items)
      (Some l.gathered.items);
}

abbrev pub decreases-loop-line : goal.decreases-loop-line
decreases-loop-line l = length l.next.rest.now
