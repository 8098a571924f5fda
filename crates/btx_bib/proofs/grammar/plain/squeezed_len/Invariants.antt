use Rattle.std.proofs.Common.{◌-◌, ◌≤◌, length}
use Rattle.btx_bib.proofs.GrammarLemmas.PlainByteLemmas.{IsReadTo}
use Rattle.btx_bib.proofs.grammar.plain.squeezed_len.Given as goal

abbrev pub invariant-loop-byte : goal.invariant-loop-byte
invariant-loop-byte l = IsReadTo l.enclosure l.text l.place l.depth × (l.depth ≤ l.place) × (l.place ≤ length l.text)

abbrev pub decreases-loop-byte : goal.decreases-loop-byte
decreases-loop-byte l = length l.text - l.place
