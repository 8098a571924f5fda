use Rattle.std.proofs.Common.{◌≡◌, ◌++◌, drop}
use Rattle.btx_aux.specs.refinement.Entries.{texts_of}
use Rattle.btx_aux.proofs.keys.copies.Given as goal

abbrev pub invariant-loop-key : goal.invariant-loop-key
invariant-loop-key l = texts_of l.copies.items ++ texts_of (drop l.key-index l.keys) ≡ texts_of l.keys
