use Rattle.btx_ends.proofs.CodeLemmas.{FirstHold, EffectAt}
use Rattle.btx_ends.proofs.shortening.effects_hold.Given as goal

abbrev pub invariant-loop-number : goal.invariant-loop-number
invariant-loop-number l = FirstHold (EffectAt l.style l.m l.kinds l.effects) l.number
