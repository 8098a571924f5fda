use Rattle.btx_step.proofs.Orders.{compares_bytes, sorted_once}
use Rattle.btx_step.proofs.laws.one_order.Goals as goal

pub returns : goal.returns
returns c = record { bytes = compares_bytes; once = sorted_once }
