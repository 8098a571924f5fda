use Rattle.std.proofs.Common.{◌∙◌, sym, ap, List, ℕ, Some}
use Rattle.std.specs.Prelude.{slice_get, option_copied}
use Rattle.std.specs.Option.{option_and_then}
use Rattle.btx_aux.proofs.KeyLemmas.{listed_at}
use Rattle.btx_bib.proofs.RequestLemmas.{cited-place}
use Rattle.btx_bib.proofs.request.Request.cited_as.Goals as goal

pub returns-in_err-place : goal.returns-in_err-place
returns-in_err-place c =
    let keys = c.args.self.now.job.now.keys in
    ap option_copied c.from_residual.ensures
    ∙ sym (listed_at keys c.args.lowered.now ∙ ap (option_and_then (slice_get keys)) (sym c.position.ensures ∙ c.in_err-place.was))

pub returns : goal.returns
returns c =
    let keys = c.args.self.now.job.now.keys in
    let found = c.in_ok-key.ensures.lookup in
    ap (λ (text : List ℕ). Some text) c.as_slice.ensures.value
    ∙ sym (
    listed_at keys c.args.lowered.now
    ∙ ap (option_and_then (slice_get keys)) (sym c.position.ensures ∙ c.in_ok-place.was)
    ∙ cited-place c.keys.result.now keys c.in_ok-place.place c.in_ok-key.key.now _ c.keys.ensures found.0 found.1
    )
