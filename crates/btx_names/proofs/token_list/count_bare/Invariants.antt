use Rattle.std.proofs.Common.{◌≡◌, ◌≤◌, ◌+◌, ℕ, List, length, take, drop}
use Rattle.std.specs.List.{All}
use Rattle.btx_names.specs.refinement.NameTokens.{Hold, tokens_in, lettered_in, lettered_of_bare}
use Rattle.btx_names.proofs.token_list.count_bare.Given as goal

abbrev pub invariant-loop-place : goal.invariant-loop-place
invariant-loop-place l = record {
  inside : l.place + l.bare ≤ length l.tokens;
  same : (bytes : List ℕ) → tokens_in bytes l.tokens ≡ tokens_in bytes l.initial.tokens;
  held : (bytes : List ℕ) → All (Hold bytes) l.initial.tokens → All (Hold bytes) l.tokens;
  counted : lettered_of_bare (drop l.place l.tokens) ≡ 0;
  bare : lettered_in (take l.bare (drop l.place l.tokens)) ≡ 0;
}

abbrev pub decreases-loop-place : goal.decreases-loop-place
decreases-loop-place l = l.place
