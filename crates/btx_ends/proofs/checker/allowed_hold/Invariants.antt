use Rattle.std.proofs.Common.{take}
use Rattle.btx_ends.specs.Certificates.{OwnWithin}
use Rattle.btx_ends.specs.Views.{claims_of}
use Rattle.btx_ends.proofs.checker.allowed_hold.Given as goal

abbrev pub invariant-loop-number : goal.invariant-loop-number
invariant-loop-number l = OwnWithin (claims_of l.claims) (take l.number-index l.allowed)
