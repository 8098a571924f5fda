use Rattle.std.proofs.Common.{◌≡◌, ◌++◌, drop}
use Rattle.std.specs.List.{flat_map}
use Rattle.btx_names.specs.language.FormattedNames.{item_text}
use Rattle.btx_names.specs.refinement.KeptItems.{items_in}
use Rattle.btx_names.specs.refinement.KeptNames.{kept_parts}
use Rattle.btx_names.proofs.formatted.write_items.Given as goal
use Rattle.btx_names.specs.refinement.FormattedNames.{formatted}

abbrev pub invariant-loop-item : goal.invariant-loop-item
invariant-loop-item l =
    (l.writer.mode ≡ l.initial.writer.mode)
    × (l.writer.text.items ++ flat_map (item_text l.initial.writer.mode (kept_parts l.name)) (items_in (drop l.item-index l.item-items))
    ≡ formatted l.initial.writer.mode (kept_parts l.name) l.format.text.items)
