use Rattle.std.proofs.Common.{◌≡◌, ◌∙◌, ap, sym, drop, get_or, [], List, ℕ}
use Rattle.std.proofs.lemmas.List.{drop_all}
use Rattle.btx_aux.specs.refinement.Entries.{Bytes, texts_of}
use Rattle.btx_bib.specs.refinement.Drafts.{cited_all, cited_at, place_in}
use Rattle.btx_bib.specs.refinement.Requests.{wanted}
use Rattle.btx_bib.proofs.DraftLemmas.{cited-next}
use Rattle.btx_bib.proofs.draft.ListBuilder.cite_all.Goals as goal

pub loop-key-preserved : goal.loop-key-preserved
loop-key-preserved c =
    let asked = wanted c.args.request.now in
    let keys = c.args.keys.now in
    let place = c.loop-key.key-index in
    let key = c.key-item.result in
    let text : c.as_slice.result.now ≡ (get_or keys place key).items = c.as_slice.ensures.value ∙ ap (λ (b : Bytes). b.items) c.key-item.is in
    let cites = c.in_ok-cite.ensures ∙ ap (λ (k : List ℕ). cited_at asked k c.loop-key.self (place_in c.loop-key.self k)) text in
    cited-next asked keys place key c.loop-key.self c.cite.new.self c.loop-key-test.true cites ∙ c.loop-key.invariant

pub returns : goal.returns
returns c =
    let asked = wanted c.args.request.now in
    let keys = c.args.keys.now in
    let none : drop c.loop-key.key-index keys ≡ [] = drop_all c.loop-key.key-index keys c.loop-key-test.false in
    ap (λ (ks : List Bytes). cited_all asked c.loop-key.self (texts_of ks)) (sym none)
    ∙ c.loop-key.invariant
