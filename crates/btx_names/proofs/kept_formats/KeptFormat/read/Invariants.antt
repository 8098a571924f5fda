use Rattle.std.proofs.Common.{◌≡◌, ◌++◌}
use Rattle.btx_names.specs.language.Formats.{items_of}
use Rattle.btx_names.specs.refinement.KeptItems.{items_in}
use Rattle.btx_names.proofs.kept_formats.KeptFormat.read.Given as goal

abbrev pub invariant-loop-item : goal.invariant-loop-item
invariant-loop-item l = items_in l.items.items ++ l.item-iterator ≡ items_of l.format
