use Rattle.btx_command.proofs.LifetimeLemmas.{within_opened}
use Rattle.btx_command.proofs.outputs.SystemOutputsOutputs.open_list.Goals as goal

-- what is seen lives as long as the files of the system do
pub and-self-requires : goal.and-self-requires
and-self-requires g c κs within = within_opened κs.1.1.0 g.row.R-File.lives within
