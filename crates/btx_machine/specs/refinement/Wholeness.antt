-- Whether a log has all that was noted, from one moment to another.
use Rattle.std.specs.Prelude.{◌≡◌, ◌⊎◌, Bool, true, false, Result, Ok, Err}
use Rattle.btx_text.specs.declared.fault.Fault.{Fault}
use Rattle.btx_text.specs.declared.fault.Fault.TheVariants.{Memory, Device, FileLimit, StringLimit}
use Rattle.btx_machine.specs.declared.wholeness.Wholeness.{Wholeness}
use Rattle.btx_machine.specs.declared.wholeness.Wholeness.TheVariants.{Whole, CutOff, Lost}

-- the log has each line that was noted
abbrev pub is_whole : Wholeness → Bool
is_whole Whole = true
is_whole CutOff = false
is_whole Lost = false

-- after a line that failed, by whether the log had all lines before it
abbrev pub cut_off : Bool → Wholeness
cut_off true = CutOff
cut_off false = Lost

-- after one more line, which has failed or hasn't
abbrev pub wholeness_after : Bool → Wholeness → Wholeness
wholeness_after true wholeness = cut_off (is_whole wholeness)
wholeness_after false Whole = Whole
wholeness_after false CutOff = Lost
wholeness_after false Lost = Lost

-- the log has all that was noted where it had all before
abbrev pub StaysWhole : Wholeness → Wholeness → Type 0
StaysWhole old new = is_whole new ≡ is_whole old

-- so it is after a call, but at the device's fault: then the last line may be cut off
abbrev pub WholeUnlessCutOff : {T : Type 0} → Result T Fault → Wholeness → Wholeness → Type 0
WholeUnlessCutOff (Ok value) old new = StaysWhole old new
WholeUnlessCutOff (Err Memory) old new = StaysWhole old new
WholeUnlessCutOff (Err Device) old new = StaysWhole old new ⊎ (new ≡ cut_off (is_whole old))
WholeUnlessCutOff (Err FileLimit) old new = StaysWhole old new
WholeUnlessCutOff (Err StringLimit) old new = StaysWhole old new
