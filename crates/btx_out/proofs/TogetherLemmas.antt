-- What is gathered before it is written, with one write after it.
use Rattle.std.proofs.Common.{◌≡◌, ℕ, List, [], Option, Some, sym, subst}
use Rattle.std.specs.Io.KnownBytes.{Appends}
use Rattle.btx_out.specs.language.Pieces.{AppendsPrefix}
use Rattle.btx_out.specs.laws.Breaking.{Left}
use Rattle.btx_out.specs.laws.States.{sure_after}
use Rattle.btx_out.specs.refinement.Parts.{Advances}
use Rattle.btx_out.proofs.PieceLemmas.{prefix-longer}

-- all that was gathered is written
pub together_written : (line_length : ℕ) (s t : Left) (xs ys none gathered : List ℕ) (before after : Option (List ℕ)) → none ≡ []
    → Advances line_length s xs t ys (Some none) (Some gathered) →
    Appends before after gathered → Advances line_length s xs t ys before after
together_written line_length s t xs ys none gathered before after empty p received =
    let same : gathered ≡ p.written = rw empty at p.received in
    record { written = p.written; lefts = p.lefts; committed_lines = p.committed_lines; received = subst (Appends before after) same received }

-- or the write fails
pub together_failed : (line_length : ℕ) (s t : Left) (xs ys none gathered : List ℕ) (before after : Option (List ℕ)) → none ≡ []
    → Advances line_length s xs t ys (Some none) (Some gathered) →
    AppendsPrefix before after gathered → AppendsPrefix before after (sure_after line_length s xs)
together_failed line_length s t xs ys none gathered before after empty p begins =
    let same : gathered ≡ p.written = rw empty at p.received in
    subst (AppendsPrefix before after) (sym p.committed_lines)
    (prefix-longer before after p.written (sure_after line_length t ys) (subst (AppendsPrefix before after) same begins))
