use Rattle.std.proofs.Common.{rules, ◌∷◌, [], subst}
use Rattle.btx_out.specs.language.Pieces.{AppendsPrefix}
use Rattle.btx_core.specs.language.Files.Lines.{no_style_line}
use Rattle.btx_run.proofs.ReadingLemmas.{reads_is, reads_part, style_is_missed, style_missed}
use Rattle.btx_run.proofs.LoggingLemmas.{line_begun, logs_line}
use Rattle.btx_run.proofs.MetLemmas.{hands_nothing, hands_this, part_begun}
use Rattle.btx_run.proofs.files.reading.without_style.Goals as goal
use Rattle.btx_run.specs.refinement.Files.Logging.{bytes_of_lines}

pub returns-in_err-log_one-clause-reads : goal.returns-in_err-log_one-clause-reads
returns-in_err-log_one-clause-reads g c = λ files job.
    let part : AppendsPrefix c.args.journal.now.sink.received c.log_one.new.self.sink.received (bytes_of_lines (no_style_line c.args.name.now ∷ [])) =
    subst (λ line. AppendsPrefix c.args.journal.now.sink.received c.log_one.new.self.sink.received (bytes_of_lines (line ∷ []))) c.in_ok-line.ensures
    (line_begun c.in_ok-line.line _ _ c.in_err-log_one.ensures.err) in
    reads_is c.from_residual-in_err-log_one.result _ _ _ _ (style_is_missed files job c.args.name.now)
    (reads_part c.from_residual-in_err-log_one.result _ _ _ _ (no_style_line c.args.name.now ∷ []) _ (search rules) part)

pub returns-clause-reads : goal.returns-clause-reads
returns-clause-reads g c = λ files job. style_missed files job c.args.name.now c.in_ok-line.line _ _ _ _ c.in_ok-line.ensures
    (logs_line c.in_ok-line.line c.args.journal.now c.log_one.new.self c.in_ok-log_one.ensures.ok c.log_one.ensures.warnings c.log_one.ensures.errors)

pub returns-in_err-line-clause-met : goal.returns-in_err-line-clause-met
returns-in_err-line-clause-met g c = λ files job. hands_nothing c.args.journal.now _

pub returns-in_err-log_one-clause-met : goal.returns-in_err-log_one-clause-met
returns-in_err-log_one-clause-met g c = λ files job.
    part_begun c.args.journal.now c.log_one.new.self _ _ _ (style_is_missed files job c.args.name.now)
    (hands_this c.args.journal.now c.log_one.new.self c.in_ok-line.line _ c.log_one.ensures.noted c.log_one.ensures.handed c.in_ok-line.ensures)

pub returns-clause-met : goal.returns-clause-met
returns-clause-met g c = λ files job.
    part_begun c.args.journal.now c.log_one.new.self _ _ _ (style_is_missed files job c.args.name.now)
    (hands_this c.args.journal.now c.log_one.new.self c.in_ok-line.line _ c.log_one.ensures.noted c.log_one.ensures.handed c.in_ok-line.ensures)
