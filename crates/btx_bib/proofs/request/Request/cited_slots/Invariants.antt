use Rattle.std.proofs.Common.{◌≡◌, ◌++◌, drop, map, true}
use Rattle.btx_aux.specs.refinement.Entries.{texts_of}
use Rattle.btx_bib.specs.refinement.Drafts.{open_slot}
use Rattle.btx_bib.specs.refinement.Requests.{wanted}
use Rattle.btx_bib.proofs.request.Request.cited_slots.Given as goal

abbrev pub invariant-loop-key : goal.invariant-loop-key
invariant-loop-key l = l.slots ++ map (open_slot (wanted l.self) true 0) (texts_of (drop l.key-index l.keys)) ≡ map (open_slot (wanted l.self) true 0)
    (texts_of l.keys)
