use Rattle.std.proofs.Common.{◌≡◌, length}
use Rattle.btx_where.proofs.notes.Known.tokens_since.Given as goal

-- a token for each place so far
abbrev pub invariant-loop-place : goal.invariant-loop-place
invariant-loop-place l = length l.tokens.items ≡ l.place-index
