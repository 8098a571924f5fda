use Rattle.btx_machine.proofs.PlaceLemmas.{within}
use Rattle.btx_where.proofs.stops.scene_of.Goals as goal

pub token-next-requires : goal.token-next-requires
token-next-requires c = within c.args.program.code.now c.args.at.now.place c.args.marks.now c.requires.placed
