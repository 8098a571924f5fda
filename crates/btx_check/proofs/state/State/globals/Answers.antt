use Rattle.btx_check.proofs.Kept.{global_of}
use Rattle.btx_check.proofs.state.State.globals.Goals as goal

pub returns : goal.returns
returns c = global_of _ c.new.ensures.items c.in_ok-no_numbers.ensures c.in_ok-no_numbers-2.ensures c.in_ok-no_numbers-3.ensures
