use Rattle.std.specs.Prelude.{[], ◌∷◌}
use Rattle.btx_command.specs.Acts.{ReportedText}
use Rattle.btx_command.proofs.outputs.SystemOutputsOutputs.report_text.Given as goal

abbrev pub ghost-and : goal.ghost-and
ghost-and g a = ReportedText a.seen.now.0.now a.seen.now.1.now ∷ []
