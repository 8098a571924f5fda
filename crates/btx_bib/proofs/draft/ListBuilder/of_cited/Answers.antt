use Rattle.btx_bib.specs.refinement.Requests.{wanted}
use Rattle.btx_bib.proofs.FirstCitedLemmas.{cited-first, first-within}
use Rattle.btx_bib.proofs.draft.ListBuilder.of_cited.Goals as goal

pub of-requires-clause-within : goal.of-requires-clause-within
of-requires-clause-within c = first-within c.args.request.now.all c.args.request.now.job.now.keys c.first_cited-cited.result.now c.first_cited-cited.ensures

pub returns : goal.returns
returns c = cited-first (wanted c.args.request.now) c.in_ok-of.field-0 c.in_ok-cited_slots.field-0 c.first_cited-cited.result.now c.keys_differ.ensures
    c.first_cited-cited.ensures c.in_ok-of.ensures c.in_ok-cited_slots.ensures
