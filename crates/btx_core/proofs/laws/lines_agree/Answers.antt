use Rattle.btx_core.proofs.SamePartLemmas.{lines, committed_lines}
use Rattle.btx_core.proofs.laws.lines_agree.Goals as goal

pub returns : goal.returns
returns c = record { ended = lines; pending = committed_lines }
