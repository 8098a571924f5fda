-- What was read stands in the vector, the content stays, and the device hasn't failed a reading yet.
use Rattle.std.proofs.Common.{◌≡◌}
use Rattle.btx_command.proofs.ReadingLemmas.{IsFront}
use Rattle.btx_text.specs.language.Counts.{Stays}
use Rattle.btx_command.proofs.reading.read_front.Given as goal

abbrev pub invariant-loop : goal.invariant-loop
invariant-loop g l = IsFront (g.S.File.Read.remaining l.initial.file) (g.S.File.Read.remaining l.file) l.initial.into.items l.into.items l.left
    × (g.S.System.content l.system ≡ g.S.System.content l.initial.system) × Stays (g.S.System.failures l.initial.system, g.S.System.failures l.system)
