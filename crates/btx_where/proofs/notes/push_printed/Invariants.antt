use Rattle.std.proofs.Common.{◌≡◌, ◌++◌, map, take}
use Rattle.btx_where.specs.Notes.{printed}
use Rattle.btx_where.proofs.notes.push_printed.Given as goal

-- the bytes so far, printed
abbrev pub invariant-loop-byte : goal.invariant-loop-byte
invariant-loop-byte l = l.notes.items ≡ l.fn.notes.items ++ map printed (take l.byte-index l.text)
