use Rattle.std.proofs.Common.{refl}
use Rattle.btx_text.proofs.LoweredLemmas.{lower-in-block}
use Rattle.btx_text.proofs.lowered.has_capital_in_block.Goals as goal

pub returns : goal.returns
returns c none = lower-in-block c.args.text.now c.args.place _ c.requires c.type_inv.text none refl
