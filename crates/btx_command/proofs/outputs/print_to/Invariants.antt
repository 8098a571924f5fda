use Rattle.std.specs.Prelude.{[], ◌∷◌}
use Rattle.btx_command.specs.Acts.{Printed}
use Rattle.btx_command.proofs.outputs.print_to.Given as goal

abbrev pub ghost-and : goal.ghost-and
ghost-and g a = Printed a.seen.now.0.now a.seen.now.1.now ∷ []
