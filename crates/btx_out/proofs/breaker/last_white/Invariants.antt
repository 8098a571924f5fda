use Rattle.std.proofs.Common.{◌≡◌, ◌≤◌, length}
use Rattle.btx_out.specs.language.Breaking.{last_white}
use Rattle.btx_out.proofs.breaker.last_white.Given as goal

-- from the end on there is no whitespace, or none at index 3 or later
abbrev pub invariant-loop-end : goal.invariant-loop-end
invariant-loop-end l = (last_white l.end l.text ≡ last_white (length l.text) l.text) × (l.end ≤ length l.text)

abbrev pub decreases-loop-end : goal.decreases-loop-end
decreases-loop-end l = l.end
