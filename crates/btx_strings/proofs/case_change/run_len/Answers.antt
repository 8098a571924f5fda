use Rattle.std.proofs.Common.{arith}
use Rattle.std.proofs.lemmas.List.Sums.{prefix_len-le-length}
use Rattle.btx_strings.specs.refinement.CaseState.{is_case_plain}
use Rattle.btx_strings.proofs.BlockLemmas.{plain_run}
use Rattle.btx_strings.proofs.case_change.run_len.Goals as goal

pub overflow_add-result : goal.overflow_add-result
overflow_add-result c =
    let blocks = c.blocks_len-blocks in
    let sum = plain_run c.args.rest.now blocks.result c.run_len_one_by_one.result blocks.ensures.plain blocks.ensures.bound c.run_len_one_by_one.ensures in
    omega (arith, sum, prefix_len-le-length is_case_plain c.args.rest.now)

pub returns : goal.returns
returns c =
    let blocks = c.blocks_len-blocks in
    plain_run c.args.rest.now blocks.result c.run_len_one_by_one.result blocks.ensures.plain blocks.ensures.bound c.run_len_one_by_one.ensures
