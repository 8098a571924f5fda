use Rattle.btx_machine.proofs.LimitsLemmas as by
use Rattle.btx_machine.proofs.law.limits_law.Goals as goal

pub returns : goal.returns
returns c = λ job means is bodies loops left s t x. record {
  calls_limit = by.calls job means is bodies loops left s t x;
  loops_limit =
      by.loops job means is bodies loops left s t x;
}
