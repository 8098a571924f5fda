use Rattle.std.proofs.Common.{◌≡◌, ◌++◌, take}
use Rattle.std.specs.List.{flat_map}
use Rattle.btx_strings.proofs.purified.push_group.Given as goal
use Rattle.btx_strings.specs.refinement.Purify.{purified_byte}

abbrev pub invariant-loop-byte : goal.invariant-loop-byte
invariant-loop-byte l = l.text.items ≡ l.initial.text.items ++ flat_map purified_byte (take l.byte-index l.group)
