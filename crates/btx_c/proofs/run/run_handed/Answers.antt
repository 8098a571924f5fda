use Rattle.std.proofs.Common.{sym, subst, ◌∙◌, Some, []}
use Rattle.std.specs.Prelude.{Result, IfOk, OnErr, OnOk}
use Rattle.btx_machine.specs.declared.report.Report.{Report}
use Rattle.btx_machine.specs.language.KeepingStep.{AtFault, Completes, Received}
use Rattle.btx_machine.specs.laws.Reports.{log_counts}
use Rattle.btx_core.specs.refinement.ComputedProduct.{product, product_with}
use Rattle.btx_c.specs.declared.cause.Cause.{Cause}
use Rattle.btx_c.specs.Noted.{HasNoted}
use Rattle.btx_c.specs.Outcomes.{all_files}
use Rattle.btx_c.proofs.FullLemmas.{whole_at_fault}
use Rattle.btx_c.proofs.EventLemmas.{counted_of, logged_of}
use Rattle.btx_c.proofs.OutcomeLemmas.{asks_of, err_of, noted_of, ok_of}
use Rattle.btx_c.proofs.run.run_handed.Goals as goal

pub returns-clause-ok : goal.returns-clause-ok
returns-clause-ok g c =
    let files = all_files c.args.files.now g.others in
    let Whole : Report → Type 0 = λ report. Completes report (Some [], Some []) (
      Some c.run_into-ended.new.list.bytes.items,
      Some c.run_into-ended.new.log.bytes.items,
    ) (product files c.args.name.now c.args.options.now) in
    subst (λ (outcome : Result Report Cause). IfOk outcome Whole) (sym c.outcome_of-outcome.ensures)
    (ok_of Whole c.run_into-ended.result _ _ _ (rw (c.new-list.ensures, c.new-log.ensures) at c.run_into-ended.ensures.ok))

pub returns-clause-err : goal.returns-clause-err
returns-clause-err g c =
    let files = all_files c.args.files.now g.others in
    let after : Received = (Some c.run_into-ended.new.list.bytes.items, Some c.run_into-ended.new.log.bytes.items) in
    let Whole : Report → Type 0 = λ report. Completes report (Some [], Some []) after (product files c.args.name.now c.args.options.now) in
    let Fault : Type 0 = AtFault (Some [], Some []) after (product_with files c.args.name.now c.args.options.now) c.args.options.now.budget in
    let line = rw c.get-line.ensures.value at c.get-line.ensures.range in
    subst (λ (outcome : Result Report Cause). OnErr outcome Fault) (sym c.outcome_of-outcome.ensures)
    (err_of Whole Fault c.run_into-ended.result _ _ _
    (rw (c.new-list.ensures, c.new-log.ensures) at c.run_into-ended.ensures.ok)
    (rw (c.new-list.ensures, c.new-log.ensures) at c.run_into-ended.ensures.err)
    (λ report whole. whole_at_fault files c.args.name.now c.args.options.now line report (Some [], Some []) after whole))

pub returns-clause-events : goal.returns-clause-events
returns-clause-events g c =
    let log = c.run_into-ended.new.log.bytes.items in
    subst (λ (outcome : Result Report Cause).
    IfOk outcome (λ report. HasNoted log (log_counts report.warnings report.errors) c.args.wanted c.into_noted-noted.result))
    (sym c.outcome_of-outcome.ensures)
    (noted_of c.run_into-ended.result _ _ _ c.into_noted-noted.result log c.run_into-ended.new.notes c.args.wanted c.is_none.ensures
    (logged_of c.run_into-ended.result _ c.run_into-ended.new.notes _ log c.run_into-ended.ensures.noted c.new-notes.ensures c.new-log.ensures)
    (counted_of c.run_into-ended.result _ c.run_into-ended.new.notes c.run_into-ended.ensures.counted c.new-notes.ensures)
    c.into_noted-noted.ensures)

pub returns-clause-asks : goal.returns-clause-asks
returns-clause-asks g c = λ is. c.run_into-ended.ensures.asks (asks_of c.run_into-ended.result _ _ _ (sym c.outcome_of-outcome.ensures ∙ is))
