use Rattle.btx_ends.specs.Shortening.{kinds_by, effects_by}
use Rattle.btx_ends.proofs.CodeLemmas.{FirstHold, MoverAt}
use Rattle.btx_ends.proofs.walking.moves_hold.Given as goal

abbrev pub invariant-loop-number : goal.invariant-loop-number
invariant-loop-number l =
    FirstHold (MoverAt l.style l.walk (kinds_by l.said.kinds.now) (effects_by l.said.places.now) (effects_by l.said.sizes.now) l.said.moves.now) l.number
