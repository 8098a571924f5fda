use Rattle.std.proofs.Common.{rules, ◌∙◌, ◌<◌, sym, length}
use Rattle.btx_bib.specs.refinement.Drafts.{settled_all}
use Rattle.btx_bib.specs.language.Passes.{inherited}
use Rattle.btx_bib.proofs.PassLemmas.{key-inherited, place_passed}
use Rattle.btx_bib.proofs.passes.inherit.Goals as goal

pub loop-place-preserved : goal.loop-place-preserved
loop-place-preserved c =
    let slots = settled_all c.loop-place.slots in
    let within : c.loop-place.place < length slots = search rules in
    let turn = place_passed inherited key-inherited slots (settled_all c.inherit_at.new.slots) c.loop-place.place within c.in_ok-inherit_at.ensures in
    record {
      named = c.loop-place.invariant.named ∙ sym turn.0;
      count = turn.1 ∙ c.loop-place.invariant.count;
      pass = turn.2 ∙ c.loop-place.invariant.pass;
    }
