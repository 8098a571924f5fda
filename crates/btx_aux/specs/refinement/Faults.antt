-- What the answer of a call over one device says of its failures.
use Rattle.std.specs.Prelude.{Result, Ok, Err}
use Rattle.btx_text.specs.language.Counts.{Change, Stays, Rises}
use Rattle.btx_text.specs.declared.fault.Fault.{Fault}
use Rattle.btx_text.specs.declared.fault.Fault.TheVariants.{Memory, Device, FileLimit, StringLimit}

-- the answer is a value, want of memory or the device's fault; exactly at the device's fault a call of the device failed, one and no more, and none followed it
abbrev pub CountsOfOne : {T : Type 0} → Result T Fault → Change → Type 0
CountsOfOne (Ok value) count = Stays count
CountsOfOne (Err Memory) count = Stays count
CountsOfOne (Err Device) count = Rises count
CountsOfOne (Err FileLimit) count = ⊥
CountsOfOne (Err StringLimit) count = ⊥
