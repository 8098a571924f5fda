use Rattle.std.proofs.Common.{◌≡◌, ◌++◌, codes, take}
use Rattle.std.specs.List.{flat_map}
use Rattle.btx_where.specs.Lines.{token_line}
use Rattle.btx_where.specs.Notes.{place_note}
use Rattle.btx_where.proofs.notes.Known.note_near.Given as goal

-- the notes of the callers so far
abbrev pub invariant-loop-caller : goal.invariant-loop-caller
invariant-loop-caller l =
    l.notes.items ≡ l.fn.notes.items ++ flat_map (place_note l.self.style.now (token_line l.self.places.now) (codes "from")) (take l.caller-index l.callers)
