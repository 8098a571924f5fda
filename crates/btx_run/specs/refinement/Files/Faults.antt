-- What a fault says of the finder and the outputs.
use Rattle.std.specs.Prelude.{◌≡◌, Result, Ok, Err}
use Rattle.btx_text.specs.language.Counts.{Change, Stays, OneOfThreeRises}
use Rattle.btx_text.specs.declared.fault.Fault.{Fault}
use Rattle.btx_text.specs.declared.fault.Fault.TheVariants.{Memory, Device, FileLimit, StringLimit}
use Rattle.btx_aux.specs.refinement.Faults.{CountsOfOne}
use Rattle.btx_machine.specs.refinement.Faults.{CountsOfTwo}
use Rattle.btx_machine.specs.refinement.Outputs.{Journal}
use Rattle.btx_machine.specs.refinement.Wholeness.{WholeUnlessCutOff}

-- a call over the finder and both outputs: its answer is a value, want of memory or the device's fault, and exactly at the device's fault one call of one
-- of the three failed, and none followed it there
abbrev pub CountsOfThree : {T : Type 0} → Result T Fault → Change → Change → Change → Type 0
CountsOfThree (Ok value) a b c = Stays a × Stays b × Stays c
CountsOfThree (Err Memory) a b c = Stays a × Stays b × Stays c
CountsOfThree (Err Device) a b c = OneOfThreeRises a b c
CountsOfThree (Err FileLimit) a b c = ⊥
CountsOfThree (Err StringLimit) a b c = ⊥

-- a call that writes to the log: it goes where it went, what the answer says of its failures is so, and it has all that was noted or breaks off in it
abbrev pub CountsOfLogging : {T : Type 0} → Result T Fault → Journal → Journal → Type 0
CountsOfLogging result old new =
    (new.sink.name ≡ old.sink.name) × CountsOfOne result (old.sink.failures, new.sink.failures) × (new.joined ≡ old.joined) × WholeUnlessCutOff result old.wholeness new.wholeness

-- the same of a call that asks the finder too
abbrev pub CountsOfReading : {T : Type 0} → Result T Fault → Change → Journal → Journal → Type 0
CountsOfReading result finder old new =
    (new.sink.name ≡ old.sink.name) × CountsOfTwo result finder (old.sink.failures, new.sink.failures) × (new.joined ≡ old.joined)
    × WholeUnlessCutOff result old.wholeness new.wholeness
