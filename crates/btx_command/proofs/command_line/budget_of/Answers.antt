use Rattle.std.proofs.Common.{arith, ◌∙◌, codes}
use Rattle.std.specs.Str.Parse.{ParsesUnsigned, ExplainsUnsignedError, HasUnsignedDigitsIfOk}
use Rattle.btx_command.proofs.NumberLemmas.{number_reads}
use Rattle.btx_command.proofs.command_line.budget_of.Goals as goal

-- the text lies in a range of `u64`, so it is read
pub returns : goal.returns
returns c = c.unwrap_or.ensures ∙ number_reads (λ bs r. ParsesUnsigned 64 10 bs r × ExplainsUnsignedError 10 bs r × HasUnsignedDigitsIfOk bs r)
    64 0 1000000000000000 1000000000 c.args.matches.now (codes "budget") c.get_one.result c.get_one.ensures.none c.get_one.ensures.value
    (λ u x g. g.0) (omega arith) c.requires
