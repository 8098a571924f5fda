use Rattle.std.proofs.Common.{◌≡◌, ◌+◌, drop}
use Rattle.std.specs.List.{prefix_len}
use Rattle.btx_strings.specs.refinement.CaseState.{is_case_plain}
use Rattle.btx_strings.proofs.case_change.run_len_one_by_one.Given as goal

abbrev pub invariant-loop-i : goal.invariant-loop-i
invariant-loop-i l = l.i + prefix_len is_case_plain (drop l.i l.rest) ≡ prefix_len is_case_plain l.rest
