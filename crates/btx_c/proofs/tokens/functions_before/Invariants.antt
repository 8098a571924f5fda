use Rattle.std.proofs.Common.{◌-◌}
use Rattle.btx_c.proofs.tokens.functions_before.Given as goal

abbrev pub decreases-loop-low : goal.decreases-loop-low
decreases-loop-low l = l.high - l.low
