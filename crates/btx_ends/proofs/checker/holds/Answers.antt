use Rattle.std.proofs.Common.{rules}
use Rattle.btx_ends.specs.Views.{claims_of}
use Rattle.btx_ends.proofs.CodeLemmas.{claim_holds}
use Rattle.btx_ends.proofs.checker.holds.Goals as goal

pub returns-in-Some : goal.returns-in-Some
returns-in-Some c = λ t. claim_holds (claims_of c.args.claims) _ c.in-Some.cost _ c.in-Some.ensures (search (rules, t))
