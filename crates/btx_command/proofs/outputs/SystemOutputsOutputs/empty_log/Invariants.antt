use Rattle.std.specs.Prelude.{[], ◌∷◌}
use Rattle.btx_command.specs.Acts.{EmptiedLog}
use Rattle.btx_command.proofs.outputs.SystemOutputsOutputs.empty_log.Given as goal

abbrev pub ghost-and : goal.ghost-and
ghost-and g a = EmptiedLog a.seen.now.now ∷ []
