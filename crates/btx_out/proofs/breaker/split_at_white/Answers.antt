use Rattle.std.proofs.Common.{◌∙◌, sym}
use Rattle.btx_out.specs.refinement.Breaking.{is_not_white}
use Rattle.btx_out.proofs.KeptLemmas.{front_within, split_front, split_rest}
use Rattle.btx_out.proofs.breaker.split_at_white.Goals as goal

pub split_at-requires : goal.split_at-requires
split_at-requires c = front_within is_not_white c.args.bytes.now c.non_whitespace_len.result c.non_whitespace_len.ensures

pub returns-clause-before : goal.returns-clause-before
returns-clause-before c = c.split_at.ensures.front ∙ split_front c.args.bytes.now c.non_whitespace_len.result c.non_whitespace_len.ensures

pub returns-clause-from : goal.returns-clause-from
returns-clause-from c = c.split_at.ensures.back ∙ split_rest c.args.bytes.now c.non_whitespace_len.result c.non_whitespace_len.ensures
