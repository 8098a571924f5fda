use Rattle.std.proofs.Common.{◌≡◌, ◌++◌}
use Rattle.std.specs.List.{flat_map}
use Rattle.btx_bib.specs.refinement.Drafts.{settled_all}
use Rattle.btx_bib.specs.language.Passes.{entry_at}
use Rattle.btx_bib.proofs.passes.staying.Given as goal
use Rattle.btx_bib.specs.refinement.Passes.{absence_messages}

abbrev pub invariant-loop-slot : goal.invariant-loop-slot
invariant-loop-slot l = record {
  entries : l.entries.items ++ flat_map entry_at (settled_all l.slot-iterator.rest.items) ≡ flat_map entry_at (settled_all l.initial.slot-iterator.rest.items);
  messages : l.messages ++ flat_map absence_messages (settled_all l.slot-iterator.rest.items) ≡ l.initial.messages
      ++ flat_map absence_messages (settled_all l.initial.slot-iterator.rest.items);
}
