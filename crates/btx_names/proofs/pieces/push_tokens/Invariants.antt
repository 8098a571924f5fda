use Rattle.std.proofs.Common.{◌≡◌, ◌+◌, length, take, drop}
use Rattle.btx_names.specs.language.FormattedNames.{with_tokens}
use Rattle.btx_names.specs.refinement.ItemViews.{piece_view}
use Rattle.btx_names.specs.refinement.NameTokens.{tokens_in}
use Rattle.btx_names.proofs.pieces.push_tokens.Given as goal

abbrev pub invariant-loop-token : goal.invariant-loop-token
invariant-loop-token l = record {
  counted : l.left + l.token-index ≡ length l.fn.part.tokens.now;
  start : l.writer.start ≡ l.initial.writer.start;
  mode : l.writer.mode ≡ l.initial.writer.mode;
  before : take l.initial.writer.start l.writer.text.items ≡ take l.initial.writer.start l.initial.writer.text.items;
  rest : with_tokens l.initial.writer.mode (piece_view l.piece) (drop l.initial.writer.start l.writer.text.items)
      (tokens_in l.fn.part.bytes.now (drop l.token-index l.fn.part.tokens.now))
      ≡ with_tokens l.initial.writer.mode (piece_view l.piece) (drop l.initial.writer.start l.initial.writer.text.items)
      (tokens_in l.fn.part.bytes.now l.fn.part.tokens.now);
}
