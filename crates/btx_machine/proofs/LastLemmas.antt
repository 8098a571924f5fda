-- The last line.
use Rattle.std.proofs.Common.{◌≡◌, ℕ, ap, subst, sym, ◌∙◌}
use Rattle.std.specs.Io.KnownBytes.{Appends}
use Rattle.std.proofs.KnownBytes.{Appends-trans}
use Rattle.btx_machine.proofs.Common.{AppendsPrefix, Journal, Outputs, Work, Ending, Out, state, Start, StandsFor, ended_line, report_of, last_line, bbl_at}
use Rattle.btx_machine.proofs.Common.{log_counts}
use Rattle.btx_machine.specs.refinement.Outputs.{Receiver}
use Rattle.btx_machine.specs.declared.report.Report.{Report}
use Rattle.btx_machine.specs.declared.report.LogCounts.{LogCounts}
use Rattle.btx_machine.specs.language.Reports.{end_as}
use Rattle.btx_machine.specs.refinement.Closing.{FinishedAt, FinishedPart, Closes, ClosesPart}
use Rattle.btx_machine.proofs.CloseLemmas.{closing_bbl, closing_log}
use Rattle.btx_machine.specs.refinement.Product.{report_at}

-- the pending line could not be ended
pub unfinished_part : (work : Work) (end : Ending) (steps : ℕ) (new : Outputs) → new.log ≡ work.outputs.log → FinishedPart work.outputs end new
    → ClosesPart work end steps new
unfinished_part work end steps new same part start out h = closing_bbl start work.outputs new end out (last_line (report_at end steps (state work.store out))) h
    same part

module _ (work : Work) (end : Ending) (steps : ℕ) (mid new : Outputs) (log : mid.log ≡ work.outputs.log) (fin : FinishedAt work.outputs end mid)
    (bbl : new.bbl ≡ mid.bbl) where
  -- the list is written to its end
  whole : FinishedAt work.outputs end new
  whole start out h = subst (λ (r : Receiver). Appends start.bbl r.received (bbl_at start.line_length end out)) (sym bbl) (fin start out h)

  module _ (deepest : ℕ) (d : deepest ≡ work.store.deepest) (counts : LogCounts) (tw : counts.warnings ≡ mid.log.warnings) (te : counts.errors ≡ mid.log.errors)
      (report : Report) (r : report ≡ report_of (end_as end) steps deepest counts) where
    report_is : (start : Start) (out : Out) → StandsFor start work.outputs out → report ≡ report_at end steps (state work.store out)
    report_is start out h =
        let w : mid.log.warnings ≡ work.outputs.log.warnings = ap (λ (log : Journal). log.warnings) log in
        let e : mid.log.errors ≡ work.outputs.log.errors = ap (λ (log : Journal). log.errors) log in
        let logged_is : counts ≡ log_counts out.warnings out.errors = ap (λ n. log_counts n counts.errors) (tw ∙ w ∙ h.warnings)
        ∙ ap (log_counts out.warnings) (te ∙ e ∙ h.errors) in
        r ∙ ap (λ n. report_of (end_as end) steps n counts) d ∙ ap (report_of (end_as end) steps work.store.deepest) logged_is

    pub line_part : AppendsPrefix mid.log.sink.received new.log.sink.received (ended_line (last_line report)) → ClosesPart work end steps new
    line_part part start out h =
        closing_log start work.outputs new end out (last_line (report_at end steps (state work.store out))) h whole
        (subst (λ (report : Report). AppendsPrefix work.outputs.log.sink.received new.log.sink.received (ended_line (last_line report))) (report_is start out h)
        (subst (λ (log : Journal). AppendsPrefix log.sink.received new.log.sink.received (ended_line (last_line report))) log part))

    pub line_whole : Appends mid.log.sink.received new.log.sink.received (ended_line (last_line report)) → Closes work end steps new
    line_whole more start out h = (
      whole start out h,
      Appends-trans start.log work.outputs.log.sink.received new.log.sink.received out.log (ended_line (last_line (report_at end steps (state work.store out))))
          h.log
          (subst (λ (report : Report). Appends work.outputs.log.sink.received new.log.sink.received (ended_line (last_line report))) (report_is start out h)
          (subst (λ (log : Journal). Appends log.sink.received new.log.sink.received (ended_line (last_line report))) log more)),
    )
