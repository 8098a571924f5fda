use Rattle.std.proofs.Common.{◌≡◌, ◌+◌, drop}
use Rattle.btx_bst.specs.language.Fronts.{len_till}
use Rattle.btx_bst.specs.laws.Fronts.{is_line_feed}
use Rattle.btx_bst.proofs.style_places.line_len.Given as goal

abbrev pub invariant-loop-i : goal.invariant-loop-i
invariant-loop-i l = l.i + len_till is_line_feed (drop l.i l.text) ≡ len_till is_line_feed l.text
