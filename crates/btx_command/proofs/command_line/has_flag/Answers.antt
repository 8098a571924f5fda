use Rattle.std.proofs.Common.{◌∙◌}
use Rattle.btx_command.proofs.FlagLemmas.{flag_reads}
use Rattle.btx_command.proofs.command_line.has_flag.Goals as goal

-- the text of the flag, as the rows have it, is parsed
pub returns : goal.returns
returns c = c.unwrap_or.ensures ∙ flag_reads _ c.args.matches.now c.args.id.now c.get_one.result c.get_one.ensures.none c.get_one.ensures.value
