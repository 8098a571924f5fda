use Rattle.std.proofs.Common.{◌≡◌, ◌≤◌, ◌+◌, ◌++◌, length}
use Rattle.btx_text.specs.language.Lines.{line_pieces}
use Rattle.btx_bst.specs.laws.StylePlaces.{ends_from, line_ends}
use Rattle.btx_bst.proofs.style_places.line_ends.Given as goal

-- the rest of the text has the lines that are left
abbrev pub invariant-loop-rest : goal.invariant-loop-rest
invariant-loop-rest l = record {
  goes : l.ends.items ++ ends_from l.start (line_pieces l.rest) ≡ line_ends l.text;
  within : l.start + length l.rest ≤ length l.text;
}

abbrev pub decreases-loop-rest : goal.decreases-loop-rest
decreases-loop-rest l = length l.rest
