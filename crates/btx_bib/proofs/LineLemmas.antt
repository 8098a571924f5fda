-- The texts of log lines.
use Rattle.std.proofs.Common.{append_assoc}
use Rattle.std.proofs.lemmas.Result.{IfOk-equal}

pub ruleset line_steps = (append_assoc, IfOk-equal)
