use Rattle.std.proofs.Common.{rules, ◌∙◌, ◌<◌, ◌++◌, ap, sym, length, List}
use Rattle.std.specs.Prelude.{slice_get}
use Rattle.btx_bib.specs.declared.message.Message.{Message}
use Rattle.btx_bib.specs.refinement.Drafts.{settled_all}
use Rattle.btx_bib.specs.language.Passes.{checked, check_messages}
use Rattle.btx_bib.proofs.PassLemmas.{key-checked, messages-next, messages_by-here, place_passed}
use Rattle.btx_bib.proofs.passes.check.Goals as goal

pub loop-place-preserved : goal.loop-place-preserved
loop-place-preserved c =
    let slots = settled_all c.loop-place.slots in
    let within : c.loop-place.place < length slots = search rules in
    let is = c.in_ok-check_at.ensures.slots in
    let logs = c.in_ok-check_at.ensures.messages
    ∙ ap (λ (ms : List Message). c.loop-place.messages ++ ms) (messages_by-here slots (slice_get slots c.loop-place.place)) in
    let turn = place_passed checked key-checked slots (settled_all c.check_at.new.slots) c.loop-place.place within is in
    record {
      named = c.loop-place.invariant.named ∙ sym turn.0;
      count = turn.1 ∙ c.loop-place.invariant.count;
      pass = turn.2 ∙ c.loop-place.invariant.pass;
      messages = messages-next checked check_messages slots (settled_all c.check_at.new.slots) c.loop-place.place c.loop-place.messages
          c.check_at.new.messages _ within is logs c.loop-place.invariant.messages;
    }
