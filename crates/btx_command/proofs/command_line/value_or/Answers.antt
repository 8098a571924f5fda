use Rattle.std.proofs.Common.{◌∙◌}
use Rattle.clap.specs.Words.{found_of}
use Rattle.clap.proofs.WalkLemmas.{first_value-rows}
use Rattle.btx_command.proofs.NumberLemmas.{text_or}
use Rattle.btx_command.proofs.command_line.value_or.Goals as goal

-- the first value, as the rows have it
pub returns : goal.returns
returns c =
    let same = c.get_str.ensures ∙ first_value-rows (found_of c.args.matches.now) c.args.id.now in
    rw c.unwrap_or.ensures (text_or c.get_str.result c.args.other _ same)
