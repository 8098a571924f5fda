use Rattle.std.proofs.Common.{◌≡◌, ◌++◌}
use Rattle.std.specs.List.{flat_map}
use Rattle.btx_where.specs.Notes.{literal_note}
use Rattle.btx_where.proofs.notes.Known.note_each.Given as goal

-- the notes of the literals so far
abbrev pub invariant-loop-literal : goal.invariant-loop-literal
invariant-loop-literal l = l.notes.items ≡ l.fn.notes.items ++ flat_map (literal_note l.self.style.now) l.yielded
