use Rattle.std.proofs.Common.{◌≡◌, ◌++◌, take}
use Rattle.std.specs.List.{flat_map}
use Rattle.btx_where.specs.Lines.{token_line}
use Rattle.btx_where.specs.Notes.{since_note}
use Rattle.btx_where.proofs.notes.Known.note_since.Given as goal

-- the notes of the tokens so far
abbrev pub invariant-loop-token : goal.invariant-loop-token
invariant-loop-token l = l.notes.items ≡ l.fn.notes.items ++ flat_map (since_note l.self.style.now (token_line l.self.places.now)) (take l.token-index l.tokens)
