use Rattle.std.proofs.Common.{inl, refl, ◌∙◌}
use Rattle.std.proofs.lemmas.Result.{on_err_weaker, on_ok_weaker}
use Rattle.btx_aux.proofs.AnswerLemmas.{by_both, by_fetch, by_map, by_none, on_err}
use Rattle.btx_aux.proofs.AskedLemmas.{top_begun, top_found, top_missing}
use Rattle.btx_aux.proofs.ReadLemmas.{file_missing, file_found}
use Rattle.btx_aux.proofs.JobLemmas.{topped-missing, topped-found}
use Rattle.btx_aux.proofs.citations.read_top.Goals as goal

pub returns-then-not-branch-clause-draft : goal.returns-then-not-branch-clause-draft
returns-then-not-branch-clause-draft g c =
    by_map (by_fetch c.args.top.now _ c.in_ok-fetch.ensures.grows c.in_ok-fetch.ensures.bytes) (top_missing c.args.top.now)
    (λ files e. topped-missing files c.args.top.now c.args.draft.now c.requires (e ∙ file_missing _ _ c.if-not-branch.true))

pub returns-clause-draft : goal.returns-clause-draft
returns-clause-draft g c =
    on_ok_weaker c.open_file.result (λ h. by_both c.in_ok-fetch.ensures.stays
    (by_fetch c.args.top.now _ c.in_ok-fetch.ensures.grows c.in_ok-fetch.ensures.bytes) h
    (top_found c.args.top.now c.args.draft.now c.open_file.new.draft.files c.requires)
    (λ files e r. topped-found files c.args.top.now c.fetch.new.into.items c.as_slice.result.now c.args.draft.now c.open_file.new.draft c.requires
    (e ∙ file_found _ _ c.if-not-branch.false) c.as_slice.ensures.value r)) c.open_file.ensures.draft

pub returns-in_err-fetch-clause-asked : goal.returns-in_err-fetch-clause-asked
returns-in_err-fetch-clause-asked g c = on_err c.from_residual.result (by_none c.in_err-fetch.ensures.grows (inl refl) (λ files. tt))

pub returns-clause-asked : goal.returns-clause-asked
returns-clause-asked g c =
    on_err_weaker c.open_file.result (λ h. by_both c.in_ok-fetch.ensures.stays
    (by_fetch c.args.top.now _ c.in_ok-fetch.ensures.grows c.in_ok-fetch.ensures.bytes) h
    (top_begun c.args.top.now c.args.draft.now c.requires) (λ files is here. tt)) c.open_file.ensures.asked
