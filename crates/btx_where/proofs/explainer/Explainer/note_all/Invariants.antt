use Rattle.std.proofs.Common.{drop}
use Rattle.btx_where.proofs.EventLemmas.{NotedSoFar}
use Rattle.btx_where.proofs.explainer.Explainer.note_all.Given as goal

-- the events so far are noted
abbrev pub invariant-loop-event : goal.invariant-loop-event
invariant-loop-event g l = NotedSoFar l.known.style.now l.self.job.now l.self.counts l.known.places.now (drop l.event-index l.events) l.events
    l.fn.notes.items l.notes.items
