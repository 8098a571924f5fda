use Rattle.std.proofs.Common.{refl}
use Rattle.btx_strings.proofs.BlockLemmas.{plain_in_block}
use Rattle.btx_strings.proofs.case_change.is_plain_block.Goals as goal

pub returns : goal.returns
returns c none = plain_in_block c.args.rest.now c.args.place c.requires c.type_inv.rest none refl
