use Rattle.std.proofs.Common.{◌≡◌, ◌-◌, ◌≤◌, true, length, take}
use Rattle.btx_bib.specs.refinement.Grammar.Squeezing.{is_squeezed}
use Rattle.btx_bib.proofs.grammar.squeezing.kept_len.Given as goal

abbrev pub invariant-loop-byte : goal.invariant-loop-byte
invariant-loop-byte l = (is_squeezed l.was_white (take l.place l.text) ≡ true) × (l.place ≤ length l.text)

abbrev pub decreases-loop-byte : goal.decreases-loop-byte
decreases-loop-byte l = length l.text - l.place
