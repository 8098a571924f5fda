-- What a file that failed means.
use Rattle.std.specs.Prelude.{◌&&◌, Bool, false, true, Option, None, Some, Result, Ok, Err}
use Rattle.std.specs.IoError.{error_kind}
use Rattle.std.specs.declared.io.Error.{Error}
use Rattle.std.specs.declared.io.ErrorKind.{ErrorKind}
use Rattle.std.specs.declared.io.ErrorKind.TheVariants.{Interrupted, OutOfMemory}
use Rattle.btx_text.specs.declared.failures.Failures.{Failures}
use Rattle.btx_text.specs.refinement.Counts.{failures_of}
use Rattle.btx_aux.specs.declared.fetch_fault.FetchFault.{FetchFault}
use Rattle.btx_aux.specs.declared.fetch_fault.FetchFault.TheVariants as fetch_fault
use Rattle.btx_run.specs.declared.run_fault.RunFault.{RunFault}
use Rattle.btx_run.specs.declared.run_fault.RunFault.TheVariants as run_fault

-- for a fetch, where it couldn't be opened: memory was refused, or there is no such file
abbrev pub unopened : ErrorKind → Result Bool FetchFault
unopened OutOfMemory = Err fetch_fault.Memory
unopened _ = Ok false

-- for a fetch, where a reading of it failed: it is tried again if a signal interrupted it; else memory was refused, or the device failed
abbrev pub read_fault : ErrorKind → Option FetchFault
read_fault Interrupted = None
read_fault OutOfMemory = Some fetch_fault.Memory
read_fault _ = Some fetch_fault.Device

-- the device failed a reading of a file: it failed, memory wasn't refused, and no signal interrupted it
abbrev pub is_device_kind : ErrorKind → Bool
is_device_kind Interrupted = false
is_device_kind OutOfMemory = false
is_device_kind _ = true

abbrev pub is_device_read : {T : Type 0} → Result T Error → Bool
is_device_read (Ok value) = false
is_device_read (Err error) = is_device_kind (error_kind error)

-- the failures of a finder over a system, which counts them: the last fetch failed, and that was the system's last call
abbrev pub failures_of_fetches : Failures → Bool → Failures
failures_of_fetches system last_failed = failures_of system.count (last_failed && system.last_failed)

-- for the program, where an output couldn't be created or written: memory was refused, or the device failed
abbrev pub output_fault : ErrorKind → RunFault
output_fault OutOfMemory = run_fault.Memory
output_fault _ = run_fault.Device
