use Rattle.std.proofs.Common.{◌≡◌, ◌+◌, drop}
use Rattle.btx_bib.specs.declared.grammar.byte_sets.ByteSet.TheVariants.{Gap}
use Rattle.btx_bib.specs.language.Grammar.ByteSets.{longest_run_len}
use Rattle.btx_read.proofs.places.gap_len.Given as goal

-- every byte so far is whitespace
abbrev pub invariant-loop-place : goal.invariant-loop-place
invariant-loop-place l = l.place + longest_run_len Gap (drop l.place l.text) ≡ longest_run_len Gap l.text
