-- What the parts of a breaker do.
use Rattle.std.specs.Prelude.{◌≡◌, ℕ, List, ◌++◌, Option, None, Some}
use Rattle.std.specs.Io.KnownBytes.{Appends}
use Rattle.btx_out.specs.laws.Breaking.{Left, Collecting, Passing, Swallowing}
use Rattle.btx_out.specs.laws.States.{left_after, sure_after}
use Rattle.btx_out.specs.refinement.Breakers.{Held, holding, failed}
use Rattle.btx_out.specs.declared.breaker.State.{State}
use Rattle.btx_out.specs.declared.breaker.State.TheVariants as states

-- the state with the bytes that are kept
abbrev pub left_of : State → List ℕ → Left
left_of states.Collecting kept = Collecting kept
left_of states.Passing kept = Passing
left_of states.Swallowing kept = Swallowing

-- the same of a breaker
abbrev pub held_of : ℕ → Option State → List ℕ → Held
held_of line_length (Some state) kept = holding line_length (left_of state kept)
held_of line_length None kept = failed line_length

-- From a place of the bytes that come to a later one: what is left and what becomes sure in the end stays the same, and what
-- became sure between the two places was written.
pub record Advances (line_length : ℕ) (state : Left) (bytes : List ℕ) (state' : Left) (bytes' : List ℕ) (before after : Option (List ℕ)) : Type 0 where
  pub written : List ℕ
  pub lefts : left_after line_length state bytes ≡ left_after line_length state' bytes'
  pub committed_lines : sure_after line_length state bytes ≡ written ++ sure_after line_length state' bytes'
  pub received : Appends before after written
