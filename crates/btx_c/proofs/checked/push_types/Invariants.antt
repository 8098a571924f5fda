use Rattle.std.proofs.Common.{◌≡◌, ◌++◌, drop}
use Rattle.btx_c.specs.Checks.{type_names}
use Rattle.btx_c.proofs.checked.push_types.Given as goal

-- the names so far and those of the other functions are all names
abbrev pub invariant-loop-number : goal.invariant-loop-number
invariant-loop-number l = l.initial.types.items ++ type_names l.style.names l.numbers ≡ l.types.items
    ++ type_names l.style.names (drop l.number-index l.numbers)
