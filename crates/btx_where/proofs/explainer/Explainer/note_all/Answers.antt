use Rattle.std.proofs.Common.{◌+◌, arith, drop, refl}
use Rattle.std.proofs.lemmas.List.{drop_all}
use Rattle.btx_machine.proofs.SayLemmas.{drop_at}
use Rattle.btx_where.proofs.EventLemmas.{all_noted, none_noted, one_more_noted}
use Rattle.btx_where.proofs.explainer.Explainer.note_all.Goals as goal

pub loop-event-init : goal.loop-event-init
loop-event-init g c = none_noted c.args.known.now.style.now c.args.self.now.job.now c.args.self.now.counts c.args.known.now.places.now
    (drop 0 c.args.events.now) c.args.events.now c.args.notes.now.items refl

pub loop-event-preserved : goal.loop-event-preserved
loop-event-preserved g c = one_more_noted c.args.known.now.style.now c.args.self.now.job.now c.args.self.now.counts c.args.known.now.places.now
    c.event-item.result (drop c.loop-event.event-index c.args.events.now) (drop (c.loop-event.event-index + 1) c.args.events.now) c.args.events.now
    c.args.notes.now.items c.loop-event.notes.items c.note_one.new.notes.items (drop_at c.args.events.now c.loop-event.event-index c.event-item.result
    c.event-item.is (omega arith))
    c.loop-event.invariant c.in_ok-note_one.ensures

pub returns : goal.returns
returns g c = all_noted c.args.known.now.style.now c.args.self.now.job.now c.args.self.now.counts c.args.known.now.places.now
    (drop c.loop-event.event-index c.args.events.now) c.args.events.now c.args.notes.now.items c.loop-event.notes.items
    (drop_all c.loop-event.event-index c.args.events.now (omega arith)) c.loop-event.invariant
