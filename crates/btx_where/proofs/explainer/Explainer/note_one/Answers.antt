use Rattle.std.proofs.Common.{length, ap, ◌∙◌}
use Rattle.btx_where.proofs.EventLemmas.{one_noted}
use Rattle.btx_where.proofs.explainer.Explainer.note_one.Goals as goal

pub returns : goal.returns
returns g c = one_noted c.args.known.now.style.now c.args.self.now.job.now c.args.self.now.counts c.args.known.now.places.now c.args.event.now
    c.as_slice.result.now c.began-began.result c.in_ok-found.found c.args.notes.now.items c.note_head.new.notes.items c.note_since.new.notes.items
    c.note_found.new.notes.items (ap length c.as_slice.ensures.value ∙ c.in_ok-since.ensures) c.in_ok-found.ensures.run c.in_ok-found.ensures.item
    c.in_ok-note_head.ensures c.in_ok-note_since.ensures
    c.in_ok-note_found.ensures
