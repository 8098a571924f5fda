use Rattle.std.specs.Prelude.{[], ◌∷◌}
use Rattle.btx_command.specs.Acts.{ClosedList}
use Rattle.btx_command.proofs.outputs.SystemOutputsOutputs.close_list.Given as goal

abbrev pub ghost-and : goal.ghost-and
ghost-and g a = ClosedList a.seen.now ∷ []
