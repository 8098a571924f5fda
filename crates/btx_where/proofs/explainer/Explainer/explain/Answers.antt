use Rattle.btx_where.proofs.EventLemmas.{explained, nothing_explained}
use Rattle.btx_where.proofs.explainer.Explainer.explain.Goals as goal

pub returns-then-is_quiet-clause-notes : goal.returns-then-is_quiet-clause-notes
returns-then-is_quiet-clause-notes g c = nothing_explained c.args.self.now.job.now c.args.self.now.counts c.args.places.now c.args.notes.now.items

pub returns-clause-notes : goal.returns-clause-notes
returns-clause-notes g c = explained c.style-style.result.now c.args.self.now.job.now c.args.self.now.counts c.args.places.now
    c.as_slice.result.now c.args.notes.now.items c.note_all.new.notes.items c.style-style.ensures c.in_ok-note_all.ensures
