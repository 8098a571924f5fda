-- What a run writes last.
use Rattle.std.specs.Prelude.{ℕ, ◌⊎◌, List, ◌++◌}
use Rattle.std.specs.Io.KnownBytes.{Appends}
use Rattle.btx_out.specs.language.Pieces.{AppendsPrefix, AppendsAtLeast}
use Rattle.btx_machine.specs.declared.ending.Ending.{Ending}
use Rattle.btx_machine.specs.refinement.Outputs.{Outputs, Work}
use Rattle.btx_machine.specs.language.States.{Out, state}
use Rattle.btx_machine.specs.refinement.Written.{Start, StandsFor}
use Rattle.btx_machine.specs.language.Saying.{ended_line}
use Rattle.btx_machine.specs.language.Reports.{last_line}
use Rattle.btx_machine.specs.language.Product.{bbl_at}
use Rattle.btx_machine.specs.refinement.Product.{so_far, report_at}

-- the list of references is written to its end
abbrev pub FinishedAt : Outputs → Ending → Outputs → Type 0
FinishedAt old end new = (start : Start) (out : Out) → StandsFor start old out → Appends start.bbl new.bbl.received (bbl_at start.line_length end out)

-- at a failure a part of it
abbrev pub FinishedPart : Outputs → Ending → Outputs → Type 0
FinishedPart old end new = (start : Start) (out : Out) → StandsFor start old out →
    AppendsAtLeast start.bbl new.bbl.received (so_far start.line_length out) × AppendsPrefix start.bbl new.bbl.received (bbl_at start.line_length end out)

-- both outputs are written to their ends
abbrev pub Closes : Work → Ending → ℕ → Outputs → Type 0
Closes old end steps new = (start : Start) (out : Out) → StandsFor start old.outputs out →
    Appends start.bbl new.bbl.received (bbl_at start.line_length end out) × Appends start.log new.log.sink.received
    (out.log ++ ended_line (last_line (report_at end steps (state old.store out))))

-- at a failure a part of that, and nothing of the last line unless the list is written to its end
pub record Closing (start : Start) (new : Outputs) (out : Out) (bbl last : List ℕ) : Type 0 where
  pub bbl_least : AppendsAtLeast start.bbl new.bbl.received (so_far start.line_length out)
  pub bbl_most : AppendsPrefix start.bbl new.bbl.received bbl
  pub log_least : AppendsAtLeast start.log new.log.sink.received out.log
  pub log_most : AppendsPrefix start.log new.log.sink.received (out.log ++ ended_line last)
  pub last_line : Appends start.bbl new.bbl.received bbl ⊎ AppendsPrefix start.log new.log.sink.received out.log

abbrev pub ClosesPart : Work → Ending → ℕ → Outputs → Type 0
ClosesPart old end steps new = (start : Start) (out : Out) → StandsFor start old.outputs out →
    Closing start new out (bbl_at start.line_length end out) (last_line (report_at end steps (state old.store out)))
