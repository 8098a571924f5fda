-- What a fault says of the two sinks: at want of memory no write has failed, and the device's fault is answered exactly where one write to one
-- of them failed, which nothing followed there. No other fault is answered.
use Rattle.std.specs.Prelude.{Result, Ok, Err, IsSome}
use Rattle.btx_text.specs.language.Counts.{Change, Stays}
use Rattle.btx_text.specs.refinement.Counts.{OneOfTwoRises}
use Rattle.btx_text.specs.declared.fault.Fault.{Fault}
use Rattle.btx_text.specs.declared.fault.Fault.TheVariants.{Memory, Device, FileLimit, StringLimit}
use Rattle.btx_machine.specs.refinement.Outputs.{Outputs, SameSinks}
use Rattle.btx_machine.specs.refinement.Wholeness.{StaysWhole, WholeUnlessCutOff}

-- a call over two devices: its answer is a value, want of memory or the device's fault, and exactly at the device's fault one call of one of them failed,
-- and none followed it there
abbrev pub CountsOfTwo : {T : Type 0} → Result T Fault → Change → Change → Type 0
CountsOfTwo (Ok value) a b = Stays a × Stays b
CountsOfTwo (Err Memory) a b = Stays a × Stays b
CountsOfTwo (Err Device) a b = OneOfTwoRises a b
CountsOfTwo (Err FileLimit) a b = ⊥
CountsOfTwo (Err StringLimit) a b = ⊥

-- a call over both outputs: they go where they went, what its answer says of their counts is so, and the log has all that was noted or breaks off in it
abbrev pub CountsOfBoth : {T : Type 0} → Result T Fault → Outputs → Outputs → Type 0
CountsOfBoth result old new = SameSinks old new × CountsOfTwo result (old.bbl.failures, new.bbl.failures) (old.log.sink.failures, new.log.sink.failures)
    × WholeUnlessCutOff result old.log.wholeness new.log.wholeness

-- since the first of two moments no write to either output has failed, they go where they went, and the log has all that was noted if it had it
abbrev pub NoneFailed : Outputs → Outputs → Type 0
NoneFailed old new = SameSinks old new × Stays (old.bbl.failures, new.bbl.failures) × Stays (old.log.sink.failures, new.log.sink.failures)
    × StaysWhole old.log.wholeness new.log.wholeness

-- no write to the list of references has failed
abbrev pub Writes : Outputs → Type 0
Writes outputs = IsSome outputs.breaker.pending
