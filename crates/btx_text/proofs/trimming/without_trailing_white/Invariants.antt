use Rattle.std.proofs.Common.{◌≡◌, ◌≤◌, take, length}
use Rattle.btx_text.specs.language.Lines.{trimmed}
use Rattle.btx_text.proofs.trimming.without_trailing_white.Given as goal

abbrev pub invariant-loop-end : goal.invariant-loop-end
invariant-loop-end l = (trimmed (take l.end l.text) ≡ trimmed l.text) × (l.end ≤ length l.text)

abbrev pub decreases-loop-end : goal.decreases-loop-end
decreases-loop-end l = l.end
