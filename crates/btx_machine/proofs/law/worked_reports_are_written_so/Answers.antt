use Rattle.btx_machine.proofs.ReportRows.{written}
use Rattle.btx_machine.proofs.law.worked_reports_are_written_so.Goals as goal

pub returns : goal.returns
returns c = written
