use Rattle.std.proofs.Common.{◌≡◌, ◌++◌, length}
use Rattle.btx_strings.specs.language.Purify.{purify_of}
use Rattle.btx_strings.proofs.purified.purify_into.Given as goal

abbrev pub invariant-loop-rest : goal.invariant-loop-rest
invariant-loop-rest l = l.text.items ++ purify_of l.rest ≡ purify_of l.string

abbrev pub decreases-loop-rest : goal.decreases-loop-rest
decreases-loop-rest l = length l.rest
