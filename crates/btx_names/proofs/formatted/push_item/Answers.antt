use Rattle.std.proofs.Common.{◌∙◌, ap, length, sym}
use Rattle.btx_names.specs.language.FormattedNames.{tokens_of_part}
use Rattle.btx_names.specs.refinement.ItemViews.{piece_view}
use Rattle.btx_names.specs.refinement.KeptNames.{kept_parts}
use Rattle.btx_names.proofs.PartLemmas.{no_tokens}
use Rattle.btx_names.proofs.PieceLemmas.{piece_of_none}
use Rattle.btx_names.proofs.formatted.push_item.Goals as goal

pub returns-then-is_empty-clause-text : goal.returns-then-is_empty-clause-text
returns-then-is_empty-clause-text c =
    let piece = c.in-Name.piece in
    let part = c.part-part.result in
    let none = no_tokens part.bytes.now part.tokens.now c.is_empty.result c.is_empty.ensures c.if-is_empty.true in
    rw c.in-Name.is
    (piece_of_none c.args.writer.now.mode (piece_view piece) (tokens_of_part piece.part (kept_parts c.args.name.now)) c.args.writer.now.text.items
    (ap length (sym c.part-part.ensures) ∙ none))
