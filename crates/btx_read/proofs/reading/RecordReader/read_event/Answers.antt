use Rattle.std.proofs.Common.{◌≡◌, ◌∙◌, ◌∷◌, ap, sym, length}
use Rattle.btx_bib.specs.language.Grammar.Items.{Step}
use Rattle.btx_bib.specs.refinement.Grammar.EventViews.{event_view}
use Rattle.btx_read.specs.Records.{left_at, record_at}
use Rattle.btx_read.specs.Readings.{records_left}
use Rattle.btx_read.proofs.RecordLemmas.{none-left, one-read}
use Rattle.btx_read.proofs.reading.RecordReader.read_event.Goals as goal

pub returns-in_default : goal.returns-in_default
returns-in_default c =
    let inside = c.self.inside in
    let next = rw c.in_default.is at c.in_ok-placed.ensures.ok in (
      ap records_left (sym c.self.view_is) ∙ none-left inside.text.now inside.strings inside.reader.0 inside.reader.1 next.0,
      ap (λ reader. record { text = inside.text.now; strings = inside.strings; wanted = reader.0; rest = reader.1 }) next.1 ∙ c.self.view_is,
    )

pub returns : goal.returns
returns c =
    let inside = c.self.inside in
    let text = inside.text.now in
    let placed = c.in-Some.placed in
    let next = rw c.in-Some.is at c.in_ok-placed.ensures.ok in
    let step : Step = record { event = event_view placed.event; wanted = c.read.new.self.0; rest = c.read.new.self.1 } in
    let before : c.replace-before.result.now ≡ inside.reader.1 = ap (λ b. b.now) c.replace-before.ensures.value ∙ c.self.invariant.0 in
    let says = c.in_ok-content.content in
    let is : c.placed_at.result ≡ record_at text says (left_at step.event inside.reader.1 (length step.rest)) step.rest =
    c.placed_at.ensures.record
    ∙ ap (λ b. record_at text says (left_at step.event b (length placed.rest.now)) placed.rest.now) before
    ∙ ap (λ r. record_at text says (left_at step.event inside.reader.1 (length r)) r) next.1 in
    let after = c.content_of.new.strings in
    ap records_left (sym c.self.view_is)
    ∙ one-read text inside.strings inside.reader.0 inside.reader.1 step says after next.0 c.in_ok-content.ensures.content c.in_ok-content.ensures.strings
    ∙ ap (λ first. first ∷ records_left (record { text = text; strings = after; wanted = step.wanted; rest = step.rest })) (sym is)
