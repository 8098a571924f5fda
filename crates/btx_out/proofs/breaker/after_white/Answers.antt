use Rattle.std.proofs.Common.{◌∙◌}
use Rattle.btx_text.specs.language.Class.{is_white}
use Rattle.btx_out.proofs.KeptLemmas.{front_within, skip_rest}
use Rattle.btx_out.proofs.breaker.after_white.Goals as goal

pub split_at-requires : goal.split_at-requires
split_at-requires c = front_within is_white c.args.bytes.now c.white_len.result c.white_len.ensures

pub returns : goal.returns
returns c = c.split_at.ensures.back ∙ skip_rest c.args.bytes.now c.white_len.result c.white_len.ensures
