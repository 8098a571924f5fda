use Rattle.std.proofs.Common.{◌≡◌, ◌++◌}
use Rattle.std.specs.List.{flat_map, list_any}
use Rattle.btx_names.specs.language.FormattedNames.{item_text}
use Rattle.btx_names.specs.language.Formats.{is_illegal, items_of}
use Rattle.btx_names.specs.refinement.KeptNames.{kept_parts}
use Rattle.btx_names.proofs.formatted.write_until_illegal.Given as goal
use Rattle.btx_names.specs.refinement.FormattedNames.{formatted}

abbrev pub invariant-loop-item : goal.invariant-loop-item
invariant-loop-item l =
    (l.writer.mode ≡ l.initial.writer.mode)
    × (l.writer.text.items ++ flat_map (item_text l.initial.writer.mode (kept_parts l.name)) l.item-iterator
    ≡ formatted l.initial.writer.mode (kept_parts l.name) l.format)
    × (list_any is_illegal l.item-iterator ≡ list_any is_illegal (items_of l.format))
