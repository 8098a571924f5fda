use Rattle.std.specs.Prelude.{[], ◌∷◌}
use Rattle.btx_command.specs.Acts.{ReportedFault}
use Rattle.btx_command.proofs.outputs.SystemOutputsOutputs.report_fault.Given as goal

abbrev pub ghost-and : goal.ghost-and
ghost-and g a = ReportedFault a.seen.now ∷ []
