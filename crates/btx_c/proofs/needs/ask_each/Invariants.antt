use Rattle.std.proofs.Common.{◌≡◌, ◌++◌, drop}
use Rattle.btx_aux.specs.refinement.Entries.{texts_of}
use Rattle.btx_c.specs.Needs.{lines_for}
use Rattle.btx_c.proofs.needs.ask_each.Given as goal

-- what was asked so far and the lines for the other names are all that is to be asked
abbrev pub invariant-loop-name : goal.invariant-loop-name
invariant-loop-name l = l.initial.asked.items ++ lines_for l.index (texts_of l.names) ≡ l.asked.items
    ++ lines_for l.index (texts_of (drop l.name-index l.names))
