use Rattle.std.proofs.Common.{◌≡◌, ◌+◌, drop}
use Rattle.btx_bib.specs.language.Grammar.ByteSets.{longest_run_len}
use Rattle.btx_bib.proofs.grammar.byte_sets.run_len.Given as goal

abbrev pub invariant-loop-place : goal.invariant-loop-place
invariant-loop-place l = l.place + longest_run_len l.set (drop l.place l.text) ≡ longest_run_len l.set l.text
