use Rattle.std.proofs.Common.{◌≡◌, drop}
use Rattle.btx_text.specs.language.Keys.{folded}
use Rattle.btx_text.proofs.lowered.has_capital_in_few.Given as goal

abbrev pub invariant-loop-byte : goal.invariant-loop-byte
invariant-loop-byte l = folded (drop l.byte-index l.text) ≡ drop l.byte-index l.text → folded l.text ≡ l.text
