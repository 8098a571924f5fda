use Rattle.std.proofs.Common.{◌≡◌, drop}
use Rattle.std.specs.List.{fold}
use Rattle.btx_bst.specs.refinement.NameTables.{pairs_in, with_built_in}
use Rattle.btx_bst.proofs.name_table.add_words.Given as goal

-- the words that are left do the rest
abbrev pub invariant-loop-built_in : goal.invariant-loop-built_in
invariant-loop-built_in l = fold with_built_in (pairs_in l.table.entries) (drop l.built_in-index l.built_ins) ≡ fold with_built_in (pairs_in l.fn.table.entries)
    l.built_ins
