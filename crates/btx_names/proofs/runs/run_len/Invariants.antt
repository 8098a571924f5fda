use Rattle.std.proofs.Common.{◌≡◌, ◌+◌, ◌≤◌, drop}
use Rattle.btx_names.specs.language.Runs.{run_len}
use Rattle.btx_names.proofs.runs.run_len.Given as goal

abbrev pub invariant-loop-place : goal.invariant-loop-place
invariant-loop-place l = (l.place + run_len l.stop l.depth (drop l.place l.text) ≡ run_len l.stop 0 l.text) × (l.depth ≤ l.place)
