use Rattle.std.proofs.Common.{refl, rules, sym, ◌∙◌, subst}
use Rattle.btx_aux.proofs.AnswerLemmas.{by_map}
use Rattle.btx_machine.specs.refinement.Places.{most_steps, showing, shown}
use Rattle.btx_machine.specs.language.KeepingStep.{AtFault, Completes}
use Rattle.btx_machine.proofs.ComesLemmas.{err_map, ok_map, on_err}
use Rattle.btx_machine.proofs.CountingLemmas.{counts_both, counts_since}
use Rattle.btx_machine.proofs.EdgeLemmas.{ends_as}
use Rattle.btx_machine.specs.laws.Reports.{log_counts}
use Rattle.btx_machine.specs.refinement.Counting.{CountsNoted}
use Rattle.btx_core.specs.language.Files.Counts.{counts_of}
use Rattle.btx_core.specs.refinement.ComputedProduct.{product_of_files}
use Rattle.btx_run.specs.refinement.Files.Counts.{counts_at}
use Rattle.btx_run.specs.refinement.Files.Readings.{files_read}
use Rattle.btx_run.proofs.ProductLemmas.{behind_ends, completes_reading, counts_are, counts_of_none, fails_in_lines, fails_reading}
use Rattle.btx_machine.proofs.StyleMeets.{last_behind}
use Rattle.btx_run.proofs.MetLemmas.{by_with}
use Rattle.btx_run.proofs.MetRuns.{hands_between, last_between, reading_begun, reading_met}
use Rattle.btx_run.proofs.runner.run_job.Goals as goal
use Rattle.btx_run.specs.refinement.Product.{product_of_reading}

pub returns-in_err-read-clause-err : goal.returns-in_err-read-clause-err
returns-in_err-read-clause-err g c =
    let log = g.L.LogSink in
    let bbl = g.W.Sink in
    let at_end = ends_as log.received _ c.into_sink-log.result _ c.read_files-read.new.journal.sink.received
    (c.into_sink-log.ensures.name ∙ c.read_files-read.ensures.counts.0 ∙ c.new-journal.ensures.name) c.into_sink-log.ensures.received (search rules) in
    on_err c.from_residual.result (by_map c.in_err-read.ensures.answered (λ names among. among)
    (λ files part. behind_ends (λ l m. AtFault (bbl.received c.args.bbl.now, l) (bbl.received c.args.bbl.now, m)
    (product_of_reading c.args.job.now (files_read files c.args.job.now) c.args.options.now) c.args.options.now.budget)
    _ _ _ _ c.new-journal.ensures.received at_end
    (fails_in_lines (files_read files c.args.job.now).lines (bbl.received c.args.bbl.now) c.new-journal.result.sink.received
    c.read_files-read.new.journal.sink.received
    (λ steps. product_of_files c.args.job.now (files_read files c.args.job.now).gives c.args.options.now (counts_of (files_read files c.args.job.now).lines)
    steps) c.args.options.now.budget part)))

pub returns-clause-ok : goal.returns-clause-ok
returns-clause-ok g c =
    let log = g.L.LogSink in
    let bbl = g.W.Sink in
    let is_given = counts_are c.counts-counts.result _ _ c.counts-counts.ensures.warnings c.counts-counts.ensures.errors in
    let new = counts_of_none c.new-journal.result c.new-journal.ensures.warnings c.new-journal.ensures.errors in
    ok_map (λ report completes. by_map c.in_ok-read.ensures.answered (λ names among. among)
    (λ files read. behind_ends (λ l n. Completes report (bbl.received c.args.bbl.now, l) (bbl.received c.after_files.new.bbl, n)
    (product_of_reading c.args.job.now (files_read files c.args.job.now) c.args.options.now c.args.options.now.budget))
    _ _ _ _ c.new-journal.ensures.received (search rules)
    (completes_reading c.args.job.now c.args.options.now c.in_ok-read.field-0 c.counts-counts.result (counts_at c.new-journal.result)
    (counts_at c.read_files-read.new.journal)
    (bbl.received c.args.bbl.now) (bbl.received c.after_files.new.bbl) c.new-journal.result.sink.received c.read_files-read.new.journal.sink.received
    (log.received c.after_files.new.log)
    is_given new report c.args.options.now.budget (files_read files c.args.job.now) read
    (subst (λ m. Completes report (bbl.received c.args.bbl.now, m) (bbl.received c.after_files.new.bbl, log.received c.after_files.new.log)
    (product_of_files c.args.job.now c.in_ok-read.field-0 c.args.options.now c.counts-counts.result c.args.options.now.budget)) c.into_sink-log.ensures.received
    completes))))
    c.after_files.result c.after_files.ensures.ok

pub returns-clause-err : goal.returns-clause-err
returns-clause-err g c =
    let log = g.L.LogSink in
    let bbl = g.W.Sink in
    let is_given = counts_are c.counts-counts.result _ _ c.counts-counts.ensures.warnings c.counts-counts.ensures.errors in
    let new = counts_of_none c.new-journal.result c.new-journal.ensures.warnings c.new-journal.ensures.errors in
    err_map (λ fault. by_map c.in_ok-read.ensures.answered (λ names among. among)
    (λ files read. behind_ends (λ l n. AtFault (bbl.received c.args.bbl.now, l) (bbl.received c.after_files.new.bbl, n)
    (product_of_reading c.args.job.now (files_read files c.args.job.now) c.args.options.now) c.args.options.now.budget)
    _ _ _ _ c.new-journal.ensures.received (search rules)
    (fails_reading c.args.job.now c.args.options.now c.in_ok-read.field-0 c.counts-counts.result (counts_at c.new-journal.result)
    (counts_at c.read_files-read.new.journal)
    (bbl.received c.args.bbl.now) (bbl.received c.after_files.new.bbl) c.new-journal.result.sink.received c.read_files-read.new.journal.sink.received
    (log.received c.after_files.new.log)
    is_given new c.args.options.now.budget (files_read files c.args.job.now) read
    (subst (λ m. AtFault (bbl.received c.args.bbl.now, m) (bbl.received c.after_files.new.bbl, log.received c.after_files.new.log)
    (product_of_files c.args.job.now c.in_ok-read.field-0 c.args.options.now c.counts-counts.result) c.args.options.now.budget) c.into_sink-log.ensures.received
    fault))))
    c.after_files.result c.after_files.ensures.err

pub returns-clause-counted : goal.returns-clause-counted
returns-clause-counted g c =
    let noted = g.L.LogSink.noted in
    let none = log_counts 0 0 in
    let log = c.read_files-read.new.journal in
    let is_given = counts_are c.counts-counts.result _ _ c.counts-counts.ensures.warnings c.counts-counts.ensures.errors in
    let files = counts_since _ _ _ none (log_counts log.warnings log.errors) log.joined c.new-journal.result.joined c.read_files-read.ensures.counts.2
    c.new-journal.ensures.since_noted c.new-journal.ensures.since_counts (sym c.into_sink-log.ensures.noted) c.into_sink-log.ensures.counted in
    let before = subst (CountsNoted (noted c.args.log.now, noted c.into_sink-log.result.now) none) (sym is_given) files in
    ok_map (λ report counted. subst (λ last. CountsNoted (noted c.args.log.now, last) none (log_counts report.warnings report.errors)) (search rules)
    (counts_both _ _ (noted c.after_files.new.log) none c.counts-counts.result _ before counted)) c.after_files.result c.after_files.ensures.counted

pub returns-in_err-read-clause-met : goal.returns-in_err-read-clause-met
returns-in_err-read-clause-met g c =
    let log = g.L.LogSink in
    let name = c.into_sink-log.ensures.name ∙ c.read_files-read.ensures.counts.0 ∙ c.new-journal.ensures.name in
    by_map c.read_files-read.ensures.met (λ names among. among)
    (λ files hands. hands_between c.new-journal.ensures.noted c.new-journal.ensures.handed
    (ends_as log.noted _ c.into_sink-log.result _ c.read_files-read.new.journal.noted name c.into_sink-log.ensures.noted (search rules))
    (ends_as log.handed _ c.into_sink-log.result _ c.read_files-read.new.journal.handed name c.into_sink-log.ensures.handed (search rules))
    (reading_begun c.args.job.now c.args.options.now (most_steps c.from_residual.result c.args.options.now.budget) (shown c.new-journal.result)
    (shown c.read_files-read.new.journal) (shown c.read_files-read.new.journal) (files_read files c.args.job.now) hands))

pub returns-clause-met : goal.returns-clause-met
returns-clause-met g c =
    let log = g.L.LogSink in
    let is_given = counts_are c.counts-counts.result _ _ c.counts-counts.ensures.warnings c.counts-counts.ensures.errors in
    let new = counts_of_none c.new-journal.result c.new-journal.ensures.warnings c.new-journal.ensures.errors in
    by_map (by_with c.in_ok-read.ensures.answered c.read_files-read.ensures.met) (λ names among. among)
    (λ files read. hands_between c.new-journal.ensures.noted c.new-journal.ensures.handed (search rules) (search rules)
    (reading_met c.args.job.now c.args.options.now (most_steps c.after_files.result c.args.options.now.budget) (shown c.new-journal.result)
    (shown c.read_files-read.new.journal) (showing (log.noted c.after_files.new.log) (log.handed c.after_files.new.log))
    c.in_ok-read.field-0 c.counts-counts.result (counts_at c.new-journal.result) (counts_at c.read_files-read.new.journal)
    c.new-journal.result.sink.received c.read_files-read.new.journal.sink.received is_given new (files_read files c.args.job.now) read.0 read.1
    (hands_between c.into_sink-log.ensures.noted c.into_sink-log.ensures.handed refl refl c.after_files.ensures.met)))

pub returns-clause-last : goal.returns-clause-last
returns-clause-last g c =
    ok_map (λ report last. by_map c.read_files-read.ensures.met (λ names among. among)
    (λ files hands. last_between c.new-journal.ensures.noted c.new-journal.ensures.handed (search rules) (search rules)
    (last_behind hands (last_between c.into_sink-log.ensures.noted c.into_sink-log.ensures.handed refl refl last))))
    c.after_files.result c.after_files.ensures.last
