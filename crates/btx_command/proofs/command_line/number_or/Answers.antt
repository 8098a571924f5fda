use Rattle.std.proofs.Common.{arith, ◌∙◌}
use Rattle.std.specs.Str.Parse.{ParsesUnsigned, ExplainsUnsignedError, HasUnsignedDigitsIfOk}
use Rattle.btx_command.proofs.NumberLemmas.{number_reads}
use Rattle.btx_command.proofs.command_line.number_or.Goals as goal

-- the text lies in a range of `u32`, so it is read
pub returns : goal.returns
returns c = c.unwrap_or.ensures ∙ number_reads (λ bs r. ParsesUnsigned 32 10 bs r × ExplainsUnsignedError 10 bs r × HasUnsignedDigitsIfOk bs r)
    32 0 4294967295 c.args.usual c.args.matches.now c.args.id.now c.get_one.result c.get_one.ensures.none c.get_one.ensures.value
    (λ u x g. g.0) (omega arith) c.requires
