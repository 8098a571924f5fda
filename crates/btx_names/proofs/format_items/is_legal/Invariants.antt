use Rattle.std.proofs.Common.{◌≡◌}
use Rattle.std.specs.List.{list_any}
use Rattle.btx_names.specs.language.Formats.{is_illegal, items_of}
use Rattle.btx_names.proofs.format_items.is_legal.Given as goal

abbrev pub invariant-loop-item : goal.invariant-loop-item
invariant-loop-item l = list_any is_illegal l.item-iterator ≡ list_any is_illegal (items_of l.format)
