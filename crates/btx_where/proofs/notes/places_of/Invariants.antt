use Rattle.std.proofs.Common.{◌≡◌, ◌++◌, drop}
use Rattle.btx_where.specs.Notes.{places_of}
use Rattle.btx_where.proofs.notes.places_of.Given as goal

-- the places so far, and those of the levels that are left
abbrev pub invariant-loop-level : goal.invariant-loop-level
invariant-loop-level l = l.places.items ++ places_of (drop l.level-index l.levels) ≡ places_of l.levels
