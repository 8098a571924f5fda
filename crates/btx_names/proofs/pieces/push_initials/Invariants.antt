use Rattle.std.proofs.Common.{◌≡◌, ◌≤◌, ◌-◌, ◌++◌, length, drop}
use Rattle.std.specs.List.{flat_map}
use Rattle.btx_names.specs.language.FormattedNames.{initial_of}
use Rattle.btx_names.specs.refinement.NameTokens.{tokens_in}
use Rattle.btx_names.proofs.pieces.push_initials.Given as goal

abbrev pub invariant-loop-place : goal.invariant-loop-place
invariant-loop-place l = record {
  inside : l.place ≤ length l.fn.part.tokens.now;
  start : l.writer.start ≡ l.initial.writer.start;
  mode : l.writer.mode ≡ l.initial.writer.mode;
  text : l.writer.text.items ++ flat_map (λ token. initial_of l.initial.writer.mode token.text)
      (tokens_in l.fn.part.bytes.now (drop l.place l.fn.part.tokens.now))
      ≡ l.initial.writer.text.items ++ flat_map (λ token. initial_of l.initial.writer.mode token.text) (tokens_in l.fn.part.bytes.now l.fn.part.tokens.now);
}

abbrev pub decreases-loop-place : goal.decreases-loop-place
decreases-loop-place l = length l.fn.part.tokens.now - l.place
