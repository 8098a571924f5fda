-- A fetch's fault as one of any call.
use Rattle.btx_text.specs.declared.fault.Fault.{Fault}
use Rattle.btx_text.specs.declared.fault.Fault.TheVariants as fault
use Rattle.btx_aux.specs.declared.fetch_fault.FetchFault.{FetchFault}
use Rattle.btx_aux.specs.declared.fetch_fault.FetchFault.TheVariants.{Memory, Device}

-- the same fault of any call
abbrev pub fault_of : FetchFault → Fault
fault_of Memory = fault.Memory
fault_of Device = fault.Device
