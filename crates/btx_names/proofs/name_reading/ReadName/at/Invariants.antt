use Rattle.std.proofs.Common.{◌-◌, length}
use Rattle.std.specs.List.{All}
use Rattle.btx_names.specs.refinement.NameTokens.{Hold, tokens_in}
use Rattle.btx_names.proofs.ReadingLemmas.{ReadsTo}
use Rattle.btx_names.proofs.name_reading.ReadName.at.Given as goal

abbrev pub invariant-loop-place : goal.invariant-loop-place
invariant-loop-place l = record {
  reads : ReadsTo l.names l.from l.place (tokens_in l.names l.draft.tokens.items) l.draft.commas l.draft.followed l.draft.before_first l.draft.before_second;
  held : All (Hold l.names) l.draft.tokens.items;
}

abbrev pub decreases-loop-place : goal.decreases-loop-place
decreases-loop-place l = length l.names - l.place
