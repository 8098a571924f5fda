use Rattle.std.proofs.Common.{◌≡◌, ◌+◌, drop}
use Rattle.btx_names.specs.language.NameParts.{before_first}
use Rattle.btx_names.specs.refinement.Steps.{passes}
use Rattle.btx_names.specs.refinement.NameTokens.{tokens_in}
use Rattle.btx_names.proofs.token_counts.before_first.Given as goal

abbrev pub invariant-loop-place : goal.invariant-loop-place
invariant-loop-place l =
    l.place + before_first (passes l.test) (tokens_in l.fn.part.bytes.now (drop l.place l.fn.part.tokens.now))
    ≡ before_first (passes l.test) (tokens_in l.fn.part.bytes.now l.fn.part.tokens.now)
