use Rattle.std.proofs.Common.{◌≡◌, map, take}
use Rattle.btx_bib.specs.refinement.Pairs.{databases_of_pairs}
use Rattle.btx_run.proofs.contents.pairs.Given as goal
use Rattle.btx_run.specs.refinement.Contents.{database_of}

-- the files so far are pairs
abbrev pub invariant-loop-file : goal.invariant-loop-file
invariant-loop-file l = databases_of_pairs l.pairs.items ≡ map database_of (take l.file-index l.file-items)
