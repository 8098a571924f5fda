use Rattle.std.proofs.Common.{◌≡◌, ◌+◌, ◌∷◌, ◌∙◌, drop, append-nil, ap, sym, arith}
use Rattle.std.proofs.lemmas.Result.{err_from_is_err_and}
use Rattle.std.specs.List.{flat_map}
use Rattle.btx_names.specs.language.Formats.{FormatItem}
use Rattle.btx_names.specs.language.FormattedNames.{item_text}
use Rattle.btx_names.specs.refinement.KeptItems.{kept_view, items_in}
use Rattle.btx_names.specs.refinement.KeptNames.{kept_parts}
use Rattle.btx_names.proofs.KeptItemLemmas.{kept_is_legal, items_at, no_items_left, items_fail}
use Rattle.btx_names.proofs.formatted.write_items.Goals as goal

pub returns-in_err-push_item : goal.returns-in_err-push_item
returns-in_err-push_item c =
    let format = c.args.format.now in
    let text = item_text c.args.writer.now.mode (kept_parts c.args.name.now) in
    let items = c.items-item-items.result.now in
    let i = c.loop-item.item-index in
    let item = kept_view c.item-item.result in
    let rest = items_in (drop (i + 1) items) in
    let kept = c.loop-item.invariant in
    let first = ap kept_view c.item-item.is in
    let split : items_in (drop i items) ≡ item ∷ rest = items_at items i c.item-item.result (omega arith) ∙ ap (λ (one : FormatItem). one ∷ rest) (sym first) in
    let whole = rw split at kept.1 in
    let p = err_from_is_err_and c.from_residual.result c.from_residual.ensures.1 in
    rw (p.1, p.2)
    (items_fail format.text.items c.loop-item.writer.text.items (text item) (flat_map text rest) _ _ _ c.in_err-push_item.field-0.0
    (kept_is_legal format.items.items format.text.items format.read) whole (rw (kept.0, c.as_item.ensures) at c.in_err-push_item.ensures.text))

pub returns : goal.returns
returns c =
    let format = c.args.format.now in
    let items = c.items-item-items.result.now in
    let kept = c.loop-item.invariant in
    let none = no_items_left items c.loop-item.item-index (omega arith) in (
      kept_is_legal format.items.items format.text.items format.read,
      sym (append-nil c.loop-item.writer.text.items) ∙ (rw none at kept.1),
    )
