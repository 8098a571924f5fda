use Rattle.std.specs.Prelude.{[], ◌∷◌}
use Rattle.btx_command.specs.Acts.{OpenedList}
use Rattle.btx_command.proofs.outputs.SystemOutputsOutputs.open_list.Given as goal

abbrev pub ghost-and : goal.ghost-and
ghost-and g a = OpenedList a.seen.now.0.bytes a.seen.now.1 ∷ []
