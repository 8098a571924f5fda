-- What the program does outside, by its outputs.
use Rattle.std.specs.Prelude.{◌≡◌, ◌++◌, ℕ, List, [], ◌∷◌, Result, Ok, Err, take}
use Rattle.btx_text.specs.declared.failures.Failures.{Failures}
use Rattle.btx_run.specs.declared.run_fault.RunFault.{RunFault}

-- A list's file of the real system, as proofs see it: the bytes that the system took since the file was opened or emptied, and how often a write to it or an
-- emptying of it failed since it was opened, and whether the last one did.
pub record TakenFile : Type 0 where
  pub bytes : List ℕ
  pub failures : Failures

-- What can be done, with what came of it; `W` are the files of lists, of the real system `TakenFile`.
pub data Act (W : Type 0) : Type 0 where
  -- the list's file of this path was opened, or that failed
  OpenedList : (path : List ℕ) (opened : Result W RunFault) → Act W
  -- a list's file was closed, as it was then
  ClosedList : (file : W) → Act W
  -- the log that an earlier run may have left at this path was to be emptied; what isn't an ordinary file is left alone
  EmptiedLog : (path : List ℕ) → Act W
  -- a log was stored in the file of this path, or that failed; `kept` are the failures of the writes that had kept this log in memory
  StoredLog : (path log : List ℕ) (kept : Failures) (stored : Result (Unit {0}) RunFault) → Act W
  -- a text was printed to standard output, or that failed
  Printed : (text : List ℕ) (printed : Result (Unit {0}) RunFault) → Act W
  -- a text and a hint after it, which may be empty, were reported on standard error
  ReportedText : (text hint : List ℕ) → Act W
  -- a fault was reported on standard error
  ReportedFault : (fault : RunFault) → Act W

-- what was done so far, in order
abbrev pub Done : Type 0 → Type 0
Done W = List (Act W)

-- these acts were done, in order, after what was done before
abbrev pub WereDone : {W : Type 0} → Done W → Done W → List (Act W) → Type 0
WereDone before after acts = after ≡ before ++ acts

-- the fault of an answer is reported
abbrev pub reporting : {W : Type 0} {T : Type 0} → Result T RunFault → List (Act W)
reporting (Ok value) = []
reporting (Err fault) = ReportedFault fault ∷ []

-- the bytes that a writing of these took: as many of the first as it answered, or none where it failed
abbrev pub taken : {E : Type 0} → Result ℕ E → List ℕ → List ℕ
taken (Ok count) bytes = take count bytes
taken (Err error) bytes = []
