-- What the answer of a fetch says of its device.
use Rattle.std.specs.Prelude.{Bool, true, false, Result, Ok, Err}
use Rattle.btx_aux.specs.declared.fetch_fault.FetchFault.{FetchFault}
use Rattle.btx_aux.specs.declared.fetch_fault.FetchFault.TheVariants.{Memory, Device}

-- the fetch failed because of the device, and not for want of memory
abbrev pub is_device_fetch : {T : Type 0} → Result T FetchFault → Bool
is_device_fetch (Ok found) = false
is_device_fetch (Err Memory) = false
is_device_fetch (Err Device) = true
