use Rattle.std.proofs.Common.{refl, rules, ◌≡◌, true, false, subst}
use Rattle.btx_aux.proofs.AnswerLemmas.{by_map, by_none}
use Rattle.btx_run.specs.refinement.Files.Asked.{AreAmong}
use Rattle.btx_run.proofs.AskedLemmas.{among-none}
use Rattle.btx_run.proofs.ReadingLemmas.{databases_fail, databases_found, style_fits, style_too_long}
use Rattle.btx_run.proofs.MetLemmas.{hands_nothing, style_met}
use Rattle.btx_run.proofs.files.reading.with_style.Goals as goal
use Rattle.btx_text.specs.language.Limits.{is_too_long}

pub returns-then-is_too_long-clause-reads : goal.returns-then-is_too_long-clause-reads
returns-then-is_too_long-clause-reads g c =
    let long : is_too_long c.args.style.bytes ≡ true = search rules in
    by_none refl (among-none c.args.job.now.databases) (λ files. style_too_long files c.args.job.now c.args.style _ _ long)

pub returns-in_err-databases-clause-reads : goal.returns-in_err-databases-clause-reads
returns-in_err-databases-clause-reads g c =
    let short : is_too_long c.args.style.bytes ≡ false = search rules in
    by_map c.in_err-databases.ensures.reads (λ names among. subst (AreAmong names) c.databases.ensures among)
    (λ files part. databases_fail c.from_residual.result files c.args.job.now c.args.style _ _ _ _ _ (search rules) short c.databases.ensures part)

pub returns-clause-reads : goal.returns-clause-reads
returns-clause-reads g c =
    let short : is_too_long c.args.style.bytes ≡ false = search rules in
    by_map c.in_ok-databases.ensures.reads (λ names among. subst (AreAmong names) c.databases.ensures among)
    (λ files read. databases_found files c.args.job.now c.args.style _ _ _ _ _ _ short c.databases.ensures read)

pub returns-clause-fits : goal.returns-clause-fits
returns-clause-fits g c =
    let short : is_too_long c.args.style.bytes ≡ false = search rules in
    style_fits c.args.style.bytes short

pub returns-then-is_too_long-clause-met : goal.returns-then-is_too_long-clause-met
returns-then-is_too_long-clause-met g c = by_none refl (among-none c.args.job.now.databases) (λ files. hands_nothing c.args.journal.now _)

pub returns-in_err-databases-clause-met : goal.returns-in_err-databases-clause-met
returns-in_err-databases-clause-met g c =
    let short : is_too_long c.args.style.bytes ≡ false = search rules in
    by_map c.find_databases.ensures.met (λ names among. subst (AreAmong names) c.databases.ensures among)
    (λ files hands. style_met files c.args.job.now c.args.style _ c.args.journal.now c.find_databases.new.journal short c.databases.ensures hands)

pub returns-clause-met : goal.returns-clause-met
returns-clause-met g c =
    let short : is_too_long c.args.style.bytes ≡ false = search rules in
    by_map c.find_databases.ensures.met (λ names among. subst (AreAmong names) c.databases.ensures among)
    (λ files hands. style_met files c.args.job.now c.args.style _ c.args.journal.now c.find_databases.new.journal short c.databases.ensures hands)
