use Rattle.std.specs.Prelude.{[], ◌∷◌}
use Rattle.btx_command.specs.Acts.{StoredLog}
use Rattle.btx_command.proofs.outputs.SystemOutputsOutputs.store_log.Given as goal

abbrev pub ghost-and : goal.ghost-and
ghost-and g a = StoredLog a.seen.now.0.now a.seen.now.1.now a.seen.now.2 a.seen.now.3 ∷ []
