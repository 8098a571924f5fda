use Rattle.std.proofs.Common.{◌≡◌, ◌<◌, ◌+◌, ◌^◌, [], length}
use Rattle.btx_bst.specs.language.Places.{skipped, skipped_from}
use Rattle.btx_bst.proofs.cursor.Cursor.skip.Given as goal

abbrev pub invariant-loop-line : goal.invariant-loop-line
invariant-loop-line l = record {
  skips : skipped_from l.self-inside.number l.self-inside.lines ≡ skipped l.fn.self;
  room : l.self-inside.number + length l.self-inside.lines < 2 ^ 64;
  empty : l.self-inside.line.now ≡ [];
}

abbrev pub decreases-loop-line : goal.decreases-loop-line
decreases-loop-line l = length l.self-inside.lines
