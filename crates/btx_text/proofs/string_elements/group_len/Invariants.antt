use Rattle.std.proofs.Common.{◌≡◌, ◌+◌, ◌≤◌, drop}
use Rattle.btx_text.specs.language.Elements.{group_len}
use Rattle.btx_text.proofs.string_elements.group_len.Given as goal

abbrev pub invariant-loop-i : goal.invariant-loop-i
invariant-loop-i l = (l.i + group_len l.depth (drop l.i l.rest) ≡ group_len 0 l.rest) × (l.depth ≤ l.i)
