use Rattle.std.proofs.Common.{◌≡◌, ◌<◌, ◌+◌, ◌^◌, length}
use Rattle.btx_bst.specs.language.Places.{ink, ink_from}
use Rattle.btx_bst.proofs.cursor.Cursor.go_to_ink.Given as goal

abbrev pub invariant-loop-self : goal.invariant-loop-self
invariant-loop-self l = record {
  goes : ink_from l.self-inside.number l.self-inside.line.now l.self-inside.lines ≡ ink l.fn.self;
  room : l.self-inside.number + length l.self-inside.lines < 2 ^ 64;
}

abbrev pub decreases-loop-self : goal.decreases-loop-self
decreases-loop-self l = length l.self-inside.lines
