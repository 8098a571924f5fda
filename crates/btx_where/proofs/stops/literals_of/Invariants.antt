use Rattle.std.proofs.Common.{◌≡◌, ◌++◌, length}
use Rattle.btx_where.proofs.stops.literals_of.Given as goal

-- the literals so far, and those below them
abbrev pub invariant-loop-turn : goal.invariant-loop-turn
invariant-loop-turn l = record {
  all : l.literals.items ++ l.store.literals ≡ l.fn.store.literals;
  count : length l.literals.items ≡ l._turn;
}
