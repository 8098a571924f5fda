use Rattle.std.proofs.Common.{◌≡◌, drop}
use Rattle.btx_names.specs.refinement.Lettered.{from_abbreviation}
use Rattle.btx_names.proofs.initials.from_abbreviation.Given as goal

abbrev pub invariant-loop-start : goal.invariant-loop-start
invariant-loop-start l = from_abbreviation (drop l.start l.token) ≡ from_abbreviation l.token
