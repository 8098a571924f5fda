use Rattle.btx_c.proofs.supposed.log_if.Goals as goal

pub returns : goal.returns
returns c = rw c.new-log.ensures at c.in_ok-run.ensures.log
