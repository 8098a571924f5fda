-- A reading that a signal interrupted took nothing, and is no failure of the device.
use Rattle.std.proofs.Common.{◌≡◌, length}
use Rattle.std.specs.Io.KnownBytes.{Keeps}
use Rattle.btx_text.specs.language.Counts.{Stays}
use Rattle.btx_command.proofs.reading.read_some.Given as goal

abbrev pub invariant-loop : goal.invariant-loop
invariant-loop g l = (length l.into ≡ length l.initial.into) × Keeps (g.S.File.Read.remaining l.initial.file) (g.S.File.Read.remaining l.file)
    × (g.S.System.content l.system ≡ g.S.System.content l.initial.system) × Stays (g.S.System.failures l.initial.system, g.S.System.failures l.system)
