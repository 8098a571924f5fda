use Rattle.std.proofs.Common.{◌≡◌, ◌+◌, ◌*◌, ◌≤◌, length, sum_by}
use Rattle.btx_strings.specs.language.Width.{width_of}
use Rattle.btx_strings.proofs.widths.width.Given as goal
use Rattle.btx_strings.specs.refinement.Width.{part_width}
use Rattle.btx_text.specs.laws.Elements.{text_of}

abbrev pub invariant-loop-element : goal.invariant-loop-element
invariant-loop-element l = record {
  so_far : l.total + sum_by part_width l.element-iterator ≡ width_of l.string;
  bound : l.total + 1028 * length (text_of l.element-iterator) ≤ 1028 * length l.string;
}
