-- The table is held against the definition at each of the 256 bytes, by computing.
use Rattle.std.proofs.Common.{nat_eq, get_or, refl, arith}
use Rattle.std.proofs.lemmas.Bool.{agree_below_at}
use Rattle.btx_strings.specs.declared.purified.TheConstants.{STAYING}
use Rattle.btx_strings.specs.refinement.Purify.{stays}
use Rattle.btx_strings.proofs.purified.stays.Goals as goal

pub returns : goal.returns
returns c = agree_below_at (λ b. nat_eq (get_or STAYING b 0) 120) stays 256 c.args.byte refl (omega arith)
