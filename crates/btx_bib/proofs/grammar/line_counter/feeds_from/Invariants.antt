use Rattle.std.proofs.Common.{◌≡◌, ◌-◌, ◌≤◌, take}
use Rattle.btx_bib.specs.refinement.Grammar.PlaceLines.{feeds_in}
use Rattle.btx_bib.proofs.grammar.line_counter.feeds_from.Given as goal

abbrev pub invariant-loop-counted : goal.invariant-loop-counted
invariant-loop-counted l = (l.counted ≤ l.place) × (l.feeds ≡ feeds_in (take l.counted l.text))

abbrev pub decreases-loop-counted : goal.decreases-loop-counted
decreases-loop-counted l = l.place - l.counted
