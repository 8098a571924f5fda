use Rattle.btx_ends.specs.Certificates.{replacements_by}
use Rattle.btx_ends.proofs.CodeLemmas.{FirstHold}
use Rattle.btx_ends.proofs.PileLemmas.{ReplaceAt}
use Rattle.btx_ends.proofs.replacements.all_replace.Given as goal

abbrev pub invariant-loop-number : goal.invariant-loop-number
invariant-loop-number l = FirstHold (ReplaceAt l.style (replacements_by l.replacements) l.claims) l.number
