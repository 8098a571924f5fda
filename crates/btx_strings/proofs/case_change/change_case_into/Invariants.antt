use Rattle.std.proofs.Common.{◌≡◌, ◌++◌, length}
use Rattle.btx_strings.specs.language.Case as spec
use Rattle.btx_strings.specs.refinement.Case as part
use Rattle.btx_strings.proofs.PieceLemmas.{cased_rest}
use Rattle.btx_strings.proofs.case_change.change_case_into.Given as goal

abbrev pub invariant-loop-rest : goal.invariant-loop-rest
invariant-loop-rest l = l.text.items ++ cased_rest l.conversion l.place l.rest ≡ part.cased l.conversion l.string

abbrev pub decreases-loop-rest : goal.decreases-loop-rest
decreases-loop-rest l = length l.rest
