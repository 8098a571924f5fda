use Rattle.std.proofs.Common.{◌≡◌, ◌-◌, length}
use Rattle.btx_where.specs.Notes.{first_named}
use Rattle.btx_where.proofs.notes.owner.Given as goal

-- none of the functions so far has a name
abbrev pub invariant-loop-number : goal.invariant-loop-number
invariant-loop-number l = first_named l.style l.function (length l.style.bodies - l.number) l.number
    ≡ first_named l.style l.function (length l.style.bodies - l.function) l.function
