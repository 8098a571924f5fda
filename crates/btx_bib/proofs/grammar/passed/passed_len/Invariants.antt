use Rattle.std.proofs.Common.{◌≡◌, ◌+◌, ◌-◌, ◌≤◌, drop, length}
use Rattle.btx_bib.specs.language.Grammar.ByteSets.{enclosed_len}
use Rattle.btx_bib.proofs.grammar.passed.passed_len.Given as goal

abbrev pub invariant-loop-byte : goal.invariant-loop-byte
invariant-loop-byte l =
    (l.place + enclosed_len l.enclosure l.depth (drop l.place l.text) ≡ enclosed_len l.enclosure 0 l.text) × (l.depth ≤ l.place) × (l.place ≤ length l.text)

abbrev pub decreases-loop-byte : goal.decreases-loop-byte
decreases-loop-byte l = length l.text - l.place
