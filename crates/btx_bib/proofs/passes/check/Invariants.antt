use Rattle.std.proofs.Common.{◌≡◌, [], take, drop, length, ◌++◌}
use Rattle.btx_bib.specs.refinement.Drafts.{settled_all}
use Rattle.btx_bib.specs.language.Passes.{passed, checked, check_messages, pass_messages}
use Rattle.btx_bib.specs.refinement.Steps.{lower_keys}
use Rattle.btx_bib.proofs.passes.check.Given as goal

abbrev pub invariant-loop-place : goal.invariant-loop-place
invariant-loop-place l = record {
  named : l.names ≡ lower_keys (settled_all l.slots);
  count : length (settled_all l.slots) ≡ length (settled_all l.initial.slots);
  pass : passed checked (take l.place (settled_all l.slots)) (drop l.place (settled_all l.slots)) ≡ passed checked [] (settled_all l.initial.slots);
  messages : l.messages ++ pass_messages checked check_messages (take l.place (settled_all l.slots)) (drop l.place (settled_all l.slots)) ≡ l.initial.messages
      ++ pass_messages checked check_messages [] (settled_all l.initial.slots);
}
