use Rattle.btx_bib.proofs.TextLemmas.{places-missing}
use Rattle.btx_bib.proofs.places.Places.missing.Goals as goal

pub returns : goal.returns
returns c = rw (c.in_ok-vec.ensures.items_if_clones_equal (λ y is. is)) (places-missing c.missing-2.result c.args.count c.missing-2.ensures)
