use Rattle.std.proofs.Common.{◌≡◌, drop}
use Rattle.btx_where.specs.Notes.{places_of}
use Rattle.btx_where.proofs.notes.standing.Given as goal

-- no body is among the levels so far
abbrev pub invariant-loop-level : goal.invariant-loop-level
invariant-loop-level l = places_of (drop l.level-index l.levels) ≡ places_of l.levels
