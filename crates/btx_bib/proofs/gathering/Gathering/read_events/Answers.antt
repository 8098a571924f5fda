use Rattle.std.proofs.Common.{◌∙◌, ◌<◌, length, ap, sym, arith}
use Rattle.btx_bib.specs.refinement.Gatherings.{is_kept, read_on}
use Rattle.btx_bib.specs.refinement.Grammar.EventViews.{event_view}
use Rattle.btx_bib.specs.language.Grammar.Items.{Step}
use Rattle.btx_bib.specs.language.Known.{goes_on}
use Rattle.btx_bib.specs.refinement.Grammar.Reads.{left}
use Rattle.btx_bib.proofs.GrammarLemmas.LengthLemmas.{events-less}
use Rattle.btx_bib.proofs.GatheringLemmas.{ended-if}
use Rattle.btx_bib.proofs.ReadingLemmas.{ended-on, none-on, plain-on, turn-on}
use Rattle.btx_bib.proofs.gathering.Gathering.read_events.Goals as goal

pub loop-placed-preserved : goal.loop-placed-preserved
loop-placed-preserved c =
    let inv = c.loop-placed.invariant in
    let next = rw c.in-Some.is at c.in_ok-placed.ensures.ok in
    let step : Step = record { event = event_view c.in-Some.placed.event; wanted = c.read.new.self.0; rest = c.read.new.self.1 } in
    let taken = c.in_ok-take.ensures in
    let plain = c.in_ok-skip_fast_field-2.ensures in
    let turn = turn-on c.loop-placed.reading c.loop-placed.self c.loop-placed.reader step c.take.new.self c.take.new.reading _ inv.whole
    next.0 next.1 taken.state taken.logged in
    record { whole = plain.whole; rest = plain-on c.take.new.reading c.take.new.self c.read.new.self _ _ plain.state plain.logged ∙ turn ∙ inv.rest }

pub loop-placed-smaller : goal.loop-placed-smaller
loop-placed-smaller c =
    let next = rw c.in-Some.is at c.in_ok-placed.ensures.ok in
    let plain = c.in_ok-skip_fast_field-2.ensures in
    let less = events-less (is_kept c.loop-placed.self) c.loop-placed.reader.0 c.loop-placed.reader.1
    (record { event = event_view c.in-Some.placed.event; wanted = c.read.new.self.0; rest = c.read.new.self.1 }) next.0 in
    let after = c.skip_fast_field-in-Some.new.reader in
    let smaller : left after.0 (length after.1) < left c.loop-placed.reader.0 (length c.loop-placed.reader.1) = omega (arith, plain.shorter, less) in
    smaller

pub returns-then-has_ended : goal.returns-then-has_ended
returns-then-has_ended c =
    let inv = c.loop-placed.invariant in
    let next = rw c.in-Some.is at c.in_ok-placed.ensures.ok in
    let step : Step = record { event = event_view c.in-Some.placed.event; wanted = c.read.new.self.0; rest = c.read.new.self.1 } in
    let ended = ended-if (goes_on c.take.new.self.ending) (sym c.has_ended.ensures ∙ c.if-has_ended.true) in
    let taken = c.in_ok-take.ensures in
    let first = c.in_ok-skip_fast_field.ensures in
    sym (ended-on c.take.new.reading c.take.new.self (step.wanted, step.rest) ended)
    ∙ turn-on c.loop-placed.reading c.loop-placed.self c.loop-placed.reader step c.take.new.self c.take.new.reading _ inv.whole next.0 next.1 taken.state
    taken.logged
    ∙ inv.rest
    ∙ plain-on c.args.reading.now c.args.self.now _ _ _ first.state first.logged
    ∙ ap (read_on c.args.reading.now c.args.self.now) c.of-reader.ensures

pub returns : goal.returns
returns c =
    let next = rw c.in_default.is at c.in_ok-placed.ensures.ok in
    let first = c.in_ok-skip_fast_field.ensures in
    sym (none-on c.loop-placed.reading c.loop-placed.self c.loop-placed.reader next.0)
    ∙ c.loop-placed.invariant.rest
    ∙ plain-on c.args.reading.now c.args.self.now _ _ _ first.state first.logged
    ∙ ap (read_on c.args.reading.now c.args.self.now) c.of-reader.ensures
