use Rattle.std.proofs.Common.{refl, rules, subst}
use Rattle.btx_aux.proofs.AnswerLemmas.{by_map, by_none, shown_by}
use Rattle.btx_out.specs.language.Pieces.{AppendsPrefix}
use Rattle.btx_run.specs.refinement.Files.Counts.{counts_at}
use Rattle.btx_run.specs.refinement.Files.Asked.{names_in}
use Rattle.btx_run.specs.refinement.Files.Logging.{Logs, bytes_of_lines}
use Rattle.btx_run.proofs.AskedLemmas.{among-none}
use Rattle.btx_run.proofs.ReadingLemmas.{reads_behind, reads_part}
use Rattle.btx_run.specs.refinement.Files.Places.{HandsOf}
use Rattle.btx_run.proofs.MetLemmas.{hands_both, hands_first}
use Rattle.btx_run.proofs.files.reading.read_files.Goals as goal

pub returns-in_err-log_all-clause-answered : goal.returns-in_err-log_all-clause-answered
returns-in_err-log_all-clause-answered g c =
    let part : AppendsPrefix c.args.journal.now.sink.received c.log_all.new.journal.sink.received (bytes_of_lines c.args.job.now.log) =
    subst (λ lines. AppendsPrefix c.args.journal.now.sink.received c.log_all.new.journal.sink.received (bytes_of_lines lines)) c.log.ensures
    c.in_err-log_all.ensures.err in
    by_none refl (among-none (names_in c.args.job.now)) (λ files. reads_part c.from_residual.result _ _ _ _ c.args.job.now.log _ (search rules) part)

pub returns-in_err-log_all-clause-reads : goal.returns-in_err-log_all-clause-reads
returns-in_err-log_all-clause-reads g c = shown_by (returns-in_err-log_all-clause-answered g c)

pub returns-clause-answered : goal.returns-clause-answered
returns-clause-answered g c =
    let logs : Logs (counts_at c.args.journal.now, counts_at c.log_all.new.journal) (c.args.journal.now.sink.received, c.log_all.new.journal.sink.received)
    c.args.job.now.log =
    subst (λ lines. Logs (counts_at c.args.journal.now, counts_at c.log_all.new.journal) (c.args.journal.now.sink.received, c.log_all.new.journal.sink.received)
    lines) c.log.ensures c.in_ok-log_all.ensures.ok in
    by_map c.after_job.ensures.reads (λ names among. among)
    (λ files read. reads_behind c.after_job.result (counts_at c.args.journal.now) (counts_at c.log_all.new.journal) (counts_at c.after_job.new.journal)
    c.args.journal.now.sink.received c.log_all.new.journal.sink.received c.after_job.new.journal.sink.received
    c.args.job.now.log _ logs read)

pub returns-clause-reads : goal.returns-clause-reads
returns-clause-reads g c = shown_by (returns-clause-answered g c)

pub returns-in_err-log_all-clause-met : goal.returns-in_err-log_all-clause-met
returns-in_err-log_all-clause-met g c =
    by_none refl (among-none (names_in c.args.job.now)) (λ files. hands_first c.args.journal.now c.log_all.new.journal c.args.job.now.log _
    (subst (HandsOf c.args.journal.now c.log_all.new.journal) c.log.ensures c.log_all.ensures.met))

pub returns-clause-met : goal.returns-clause-met
returns-clause-met g c =
    by_map c.after_job.ensures.met (λ names among. among)
    (λ files hands. hands_both c.args.journal.now c.log_all.new.journal c.after_job.new.journal c.args.job.now.log _
    (subst (HandsOf c.args.journal.now c.log_all.new.journal) c.log.ensures c.log_all.ensures.met) hands)
