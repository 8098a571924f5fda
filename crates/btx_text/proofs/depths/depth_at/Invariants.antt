use Rattle.std.proofs.Common.{◌≡◌, ◌≤◌, take, fold}
use Rattle.btx_text.specs.language.Elements.{depth_after}
use Rattle.btx_text.proofs.depths.depth_at.Given as goal

abbrev pub invariant-loop-byte : goal.invariant-loop-byte
invariant-loop-byte l = (l.depth ≡ fold depth_after 0 (take l.byte-index l.string)) × (l.depth ≤ l.byte-index)
