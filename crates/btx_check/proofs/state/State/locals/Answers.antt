use Rattle.btx_check.proofs.EntryLemmas.{local_of}
use Rattle.btx_check.proofs.state.State.locals.Goals as goal

pub returns : goal.returns
returns c = local_of _ c.new.ensures.items c.in_ok-no_numbers.ensures c.in_ok-no_numbers-2.ensures
