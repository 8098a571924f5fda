use Rattle.std.proofs.Common.{◌≡◌, ◌<◌, ◌-◌, drop, length}
use Rattle.btx_code.specs.refinement.Codes.{tokens_left}
use Rattle.btx_where.proofs.place.reaches.Given as goal

-- up to here no body has ended
abbrev pub invariant-loop-at : goal.invariant-loop-at
invariant-loop-at l = record {
  within : l.at < length l.code.instructions;
  walked : drop (l.at - l.start) (tokens_left l.code l.start) ≡ tokens_left l.code l.at;
}
