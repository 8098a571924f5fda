use Rattle.std.proofs.Common.{◌∙◌, ap}
use Rattle.btx_aux.proofs.AnswerLemmas.{by_fetch, by_map}
use Rattle.btx_core.specs.refinement.Files.Found.{named_file}
use Rattle.btx_run.proofs.ReadingLemmas.{file_is_missing, file_is_there}
use Rattle.btx_run.proofs.files.fetching.fetch_file.Goals as goal

pub returns-then-branch-clause-answered : goal.returns-then-branch-clause-answered
returns-then-branch-clause-answered g c =
    by_map (by_fetch c.args.name.now _ c.in_ok-fetch.ensures.grows c.in_ok-fetch.ensures.bytes) (λ names is. is)
    (λ files is. file_is_there files c.args.name.now c.fetch.new.into.items c.in_ok-fetch.field-0 c.new.result is c.if-branch.true
    (c.new.ensures ∙ ap (named_file c.args.name.now) c.shrink_to_fit.ensures.items))

pub returns-clause-answered : goal.returns-clause-answered
returns-clause-answered g c =
    by_map (by_fetch c.args.name.now _ c.in_ok-fetch.ensures.grows c.in_ok-fetch.ensures.bytes) (λ names is. is)
    (λ files is. file_is_missing files c.args.name.now c.fetch.new.into.items c.in_ok-fetch.field-0 is c.if-branch.false)
