use Rattle.std.proofs.Common.{◌≡◌, ℕ, List, take}
use Rattle.btx_aux.specs.laws.Pairs.{files_of_pairs}
use Rattle.btx_aux.specs.refinement.Pairs.{first_file}
use Rattle.btx_aux.specs.refinement.Entries.{pairs_in}
use Rattle.btx_aux.specs.refinement.Borrowed.{pairs_of}
use Rattle.btx_aux.proofs.memory.MemoryFinder.new.Given as goal

-- the table has the files of the pairs so far
abbrev pub invariant-loop-name : goal.invariant-loop-name
invariant-loop-name l = (name : List ℕ) → first_file (pairs_in l.files.entries) name ≡ files_of_pairs (pairs_of (take l.name-index l.pairs)) name
