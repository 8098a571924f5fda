use Rattle.std.proofs.Common.{◌≡◌, ◌+◌, ◌≤◌, drop}
use Rattle.btx_names.specs.refinement.Steps.{first_name_len}
use Rattle.btx_names.proofs.separators.name_len.Given as goal

abbrev pub invariant-loop-place : goal.invariant-loop-place
invariant-loop-place l = (l.place + first_name_len l.depth (drop l.place l.text) ≡ first_name_len 0 l.text) × (l.depth ≤ l.place)
