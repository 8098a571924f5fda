-- What a run's fault says of the finder and the two sinks: the device's fault is answered exactly where one fetch or one write failed, and nothing more
-- was asked of that finder, or written to that sink.
use Rattle.std.specs.Prelude.{Result, Ok, Err}
use Rattle.btx_text.specs.language.Counts.{Change, Stays, OneOfThreeRises}
use Rattle.btx_run.specs.declared.run_fault.RunFault.{RunFault}
use Rattle.btx_run.specs.declared.run_fault.RunFault.TheVariants.{Memory, Device}

-- the failures of the three during a run: where the device's fault is answered, exactly one call of one of them failed, and none followed it there; else none
-- failed
abbrev pub CountsOfRun : {T : Type 0} → Result T RunFault → Change → Change → Change → Type 0
CountsOfRun (Ok value) a b c = Stays a × Stays b × Stays c
CountsOfRun (Err Memory) a b c = Stays a × Stays b × Stays c
CountsOfRun (Err Device) a b c = OneOfThreeRises a b c
