use Rattle.std.proofs.Common.{rules, ◌∙◌, ◌∷◌, [], ap}
use Rattle.btx_aux.proofs.AnswerLemmas.{by_map, by_none}
use Rattle.btx_run.proofs.AskedLemmas.{among-none, among-one}
use Rattle.btx_run.proofs.ReadingLemmas.{database_is_begun, database_is_read, reads_nothing}
use Rattle.btx_run.proofs.LoggingLemmas.{line_begun, logs_line}
use Rattle.btx_run.proofs.MetLemmas.{hands_nothing, hands_this}
use Rattle.btx_run.specs.refinement.Files.Readings.{database_logged}
use Rattle.btx_run.proofs.files.databases.find_database.Goals as goal

pub returns-in_err-found-clause-reads : goal.returns-in_err-found-clause-reads
returns-in_err-found-clause-reads g c =
    by_none c.in_err-found.ensures.refused (among-none (c.args.name.now ∷ [])) (λ files. reads_nothing c.from_residual.result _ _ _ _ (search rules))

pub returns-in_err-line-clause-reads : goal.returns-in_err-line-clause-reads
returns-in_err-line-clause-reads g c =
    by_map c.in_ok-found.ensures.answered (among-one c.args.name.now) (λ files is. reads_nothing c.from_residual-in_err-line.result _ _ _ _ (search rules))

pub returns-in_err-log_one-clause-reads : goal.returns-in_err-log_one-clause-reads
returns-in_err-log_one-clause-reads g c =
    by_map c.in_ok-found.ensures.answered (among-one c.args.name.now)
    (λ files is. database_is_begun files c.args.number c.args.name.now c.in_ok-found.found c.in_ok-line.line c.from_residual-in_err-log_one.result _ _ _ _
    (search rules) is c.in_ok-line.ensures (line_begun c.in_ok-line.line _ _ c.in_err-log_one.ensures.err))

pub returns-clause-reads : goal.returns-clause-reads
returns-clause-reads g c =
    by_map c.in_ok-found.ensures.answered (among-one c.args.name.now)
    (λ files is. database_is_read files c.args.number c.args.name.now c.in_ok-found.found c.in_ok-line.line _ _ _ _ is c.in_ok-line.ensures
    (logs_line c.in_ok-line.line c.args.journal.now c.log_one.new.self c.in_ok-log_one.ensures.ok c.log_one.ensures.warnings c.log_one.ensures.errors))

pub returns-in_err-found-clause-met : goal.returns-in_err-found-clause-met
returns-in_err-found-clause-met g c =
    by_none c.in_err-found.ensures.refused (among-none (c.args.name.now ∷ [])) (λ files. hands_nothing c.args.journal.now _)

pub returns-in_err-line-clause-met : goal.returns-in_err-line-clause-met
returns-in_err-line-clause-met g c =
    by_map c.in_ok-found.ensures.answered (among-one c.args.name.now) (λ files is. hands_nothing c.args.journal.now _)

pub returns-in_err-log_one-clause-met : goal.returns-in_err-log_one-clause-met
returns-in_err-log_one-clause-met g c =
    by_map c.in_ok-found.ensures.answered (among-one c.args.name.now)
    (λ files is. hands_this c.args.journal.now c.log_one.new.self c.in_ok-line.line _ c.log_one.ensures.noted c.log_one.ensures.handed
    (c.in_ok-line.ensures ∙ ap (database_logged c.args.number c.args.name.now) is))

pub returns-clause-met : goal.returns-clause-met
returns-clause-met g c =
    by_map c.in_ok-found.ensures.answered (among-one c.args.name.now)
    (λ files is. hands_this c.args.journal.now c.log_one.new.self c.in_ok-line.line _ c.log_one.ensures.noted c.log_one.ensures.handed
    (c.in_ok-line.ensures ∙ ap (database_logged c.args.number c.args.name.now) is))
