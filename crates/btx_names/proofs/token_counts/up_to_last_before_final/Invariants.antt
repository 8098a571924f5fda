use Rattle.std.proofs.Common.{◌≡◌, ◌≤◌, take, length}
use Rattle.btx_names.specs.language.NameParts.{up_to_last, before_final}
use Rattle.btx_names.specs.refinement.Steps.{passes}
use Rattle.btx_names.specs.refinement.NameTokens.{tokens_in}
use Rattle.btx_names.proofs.token_counts.up_to_last_before_final.Given as goal

abbrev pub invariant-loop-place : goal.invariant-loop-place
invariant-loop-place l =
    (l.place ≤ length l.fn.part.tokens.now)
    × (up_to_last (passes l.test) (tokens_in l.fn.part.bytes.now (take l.place l.fn.part.tokens.now))
    ≡ up_to_last (passes l.test) (before_final (tokens_in l.fn.part.bytes.now l.fn.part.tokens.now)))

abbrev pub decreases-loop-place : goal.decreases-loop-place
decreases-loop-place l = l.place
