use Rattle.std.proofs.Common.{refl, rules, ◌≡◌, ◌∙◌, ◌∷◌, [], ap, subst}
use Rattle.btx_aux.proofs.AnswerLemmas.{by_map, by_none}
use Rattle.btx_out.specs.language.Pieces.{AppendsPrefix}
use Rattle.btx_run.specs.refinement.Files.Counts.{counts_at}
use Rattle.btx_run.specs.refinement.Files.Logging.{Logs, bytes_of_lines}
use Rattle.btx_core.specs.language.Files.Lines.{style_line}
use Rattle.btx_run.proofs.AskedLemmas.{among-none}
use Rattle.btx_run.proofs.ReadingLemmas.{reads_behind, reads_is, reads_nothing, reads_part, style_is_read}
use Rattle.btx_run.proofs.LoggingLemmas.{line_begun, logs_line}
use Rattle.btx_run.proofs.MetLemmas.{hands_nothing, hands_this, part_begun, part_met}
use Rattle.btx_run.proofs.files.reading.log_style.Goals as goal

pub returns-in_err-line-clause-reads : goal.returns-in_err-line-clause-reads
returns-in_err-line-clause-reads g c = by_none refl (among-none c.args.job.now.databases) (λ files. reads_nothing c.from_residual.result _ _ _ _ (search rules))

pub returns-in_err-log_one-clause-reads : goal.returns-in_err-log_one-clause-reads
returns-in_err-log_one-clause-reads g c =
    let line : c.in_ok-line.line ≡ style_line c.args.style.name = c.in_ok-line.ensures ∙ ap style_line c.name.ensures in
    let part : AppendsPrefix c.args.journal.now.sink.received c.log_one.new.self.sink.received (bytes_of_lines (style_line c.args.style.name ∷ [])) =
    subst (λ line. AppendsPrefix c.args.journal.now.sink.received c.log_one.new.self.sink.received (bytes_of_lines (line ∷ []))) line
    (line_begun c.in_ok-line.line _ _ c.in_err-log_one.ensures.err) in
    by_none refl (among-none c.args.job.now.databases)
    (λ files. reads_is c.from_residual-in_err-log_one.result _ _ _ _ (style_is_read files c.args.job.now c.args.style.name c.args.style)
    (reads_part c.from_residual-in_err-log_one.result _ _ _ _ (style_line c.args.style.name ∷ []) _ (search rules) part))

pub returns-clause-reads : goal.returns-clause-reads
returns-clause-reads g c =
    let line : c.in_ok-line.line ≡ style_line c.args.style.name = c.in_ok-line.ensures ∙ ap style_line c.name.ensures in
    let logs : Logs (counts_at c.args.journal.now, counts_at c.log_one.new.self) (c.args.journal.now.sink.received, c.log_one.new.self.sink.received)
    (style_line c.args.style.name ∷ []) =
    subst (λ line. Logs (counts_at c.args.journal.now, counts_at c.log_one.new.self) (c.args.journal.now.sink.received, c.log_one.new.self.sink.received)
    (line ∷ [])) line
    (logs_line c.in_ok-line.line c.args.journal.now c.log_one.new.self c.in_ok-log_one.ensures.ok c.log_one.ensures.warnings c.log_one.ensures.errors) in
    by_map c.with_style.ensures.reads (λ names among. among)
    (λ files read. reads_is c.with_style.result (counts_at c.args.journal.now, counts_at c.with_style.new.journal) (
      c.args.journal.now.sink.received,
      c.with_style.new.journal.sink.received,
    ) _ _
    (style_is_read files c.args.job.now c.args.style.name c.args.style)
    (reads_behind c.with_style.result (counts_at c.args.journal.now) (counts_at c.log_one.new.self) (counts_at c.with_style.new.journal)
    c.args.journal.now.sink.received c.log_one.new.self.sink.received c.with_style.new.journal.sink.received
    (style_line c.args.style.name ∷ []) _ logs read))

pub returns-in_err-line-clause-met : goal.returns-in_err-line-clause-met
returns-in_err-line-clause-met g c = by_none refl (among-none c.args.job.now.databases) (λ files. hands_nothing c.args.journal.now _)

pub returns-in_err-log_one-clause-met : goal.returns-in_err-log_one-clause-met
returns-in_err-log_one-clause-met g c =
    by_none refl (among-none c.args.job.now.databases)
    (λ files. part_begun c.args.journal.now c.log_one.new.self _ _ _ (style_is_read files c.args.job.now c.args.style.name c.args.style)
    (hands_this c.args.journal.now c.log_one.new.self c.in_ok-line.line _ c.log_one.ensures.noted c.log_one.ensures.handed
    (c.in_ok-line.ensures ∙ ap style_line c.name.ensures)))

pub returns-clause-met : goal.returns-clause-met
returns-clause-met g c =
    by_map c.with_style.ensures.met (λ names among. among)
    (λ files hands. part_met c.args.journal.now c.log_one.new.self c.with_style.new.journal _ _ _
    (style_is_read files c.args.job.now c.args.style.name c.args.style)
    (hands_this c.args.journal.now c.log_one.new.self c.in_ok-line.line _ c.log_one.ensures.noted c.log_one.ensures.handed
    (c.in_ok-line.ensures ∙ ap style_line c.name.ensures)) hands)
