use Rattle.std.proofs.Common.{rules, ◌∙◌, ◌∷◌, [], ap, sym}
use Rattle.btx_aux.proofs.AnswerLemmas.{by_both, by_map, by_none}
use Rattle.btx_run.proofs.AskedLemmas.{among-first, among-front, among-none, among-one}
use Rattle.btx_run.proofs.ReadingLemmas.{reads_nothing, style_is_found, style_is_missing}
use Rattle.btx_core.specs.refinement.Files.Readings.{style_read}
use Rattle.btx_run.proofs.MetLemmas.{hands_nothing, part_same, style_there}
use Rattle.btx_run.proofs.files.reading.find_style.Goals as goal

pub returns-in_err-style-clause-reads : goal.returns-in_err-style-clause-reads
returns-in_err-style-clause-reads g c = by_none c.in_err-style.ensures.refused (among-none (c.args.name.now ∷ c.args.job.now.databases))
    (λ files. reads_nothing c.from_residual.result _ _ _ _ (search rules))

pub returns-in-Some-clause-reads : goal.returns-in-Some-clause-reads
returns-in-Some-clause-reads g c =
    by_both c.in_ok-style.ensures.stays c.in_ok-style.ensures.answered c.log_style.ensures.reads (among-first c.args.name.now c.args.job.now.databases)
    (λ files is read. style_is_found c.log_style.result files c.args.job.now c.args.name.now c.in_ok-style.field-0 c.in-Some.style _ _ c.in-Some.is is read)

pub returns-in-None-clause-reads : goal.returns-in-None-clause-reads
returns-in-None-clause-reads g c =
    by_map c.in_ok-style.ensures.answered (λ names is. among-front names (c.args.name.now ∷ []) c.args.job.now.databases (among-one c.args.name.now names is))
    (λ files is. style_is_missing c.without_style.result files c.args.job.now c.args.name.now c.in_ok-style.field-0 _ _ c.in-None.is is
    (c.without_style.ensures.reads files c.args.job.now))

pub returns-in_err-style-clause-met : goal.returns-in_err-style-clause-met
returns-in_err-style-clause-met g c = by_none c.in_err-style.ensures.refused (among-none (c.args.name.now ∷ c.args.job.now.databases))
    (λ files. hands_nothing c.args.journal.now _)

pub returns-in-Some-clause-met : goal.returns-in-Some-clause-met
returns-in-Some-clause-met g c =
    by_both c.in_ok-style.ensures.stays c.in_ok-style.ensures.answered c.log_style.ensures.met (among-first c.args.name.now c.args.job.now.databases)
    (λ files is hands. part_same c.args.journal.now c.log_style.new.journal _ _
    (style_there files c.args.job.now c.args.name.now c.in_ok-style.field-0 c.in-Some.style c.in-Some.is is) hands)

pub returns-in-None-clause-met : goal.returns-in-None-clause-met
returns-in-None-clause-met g c =
    by_map c.in_ok-style.ensures.answered (λ names is. among-front names (c.args.name.now ∷ []) c.args.job.now.databases (among-one c.args.name.now names is))
    (λ files is. part_same c.args.journal.now c.without_style.new.journal _ _
    (ap (style_read files c.args.job.now c.args.name.now) (sym is ∙ c.in-None.is)) (c.without_style.ensures.met files c.args.job.now))
