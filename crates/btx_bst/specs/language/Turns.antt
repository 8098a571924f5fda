-- Things that are read one after another, until one ends the reading.
use Rattle.std.specs.Prelude.{ℕ, zero, suc}

-- what one turn of a reading comes to: `Again`, with what is known then (an S), after which the next turn follows; or `Ends`, with the result (an R)
pub data Turn (S R : Type 0) : Type 0 where
  Again : S → Turn S R
  Ends : R → Turn S R

-- after a turn: go on with what is known, or give the result
abbrev pub after_turn : {S R : Type 0} → (S → R) → Turn S R → R
after_turn go (Again s) = go s
after_turn go (Ends r) = r

-- at most `n` turns, from what is known first. Where the bound is reached, `rest` says what it comes to; each use of it sets a bound that is never
-- reached
unfoldable pub turns_within : {S R : Type 0} → (S → Turn S R) → (S → R) → ℕ → S → R
turns_within turn rest zero s = rest s
turns_within turn rest (suc n) s = after_turn (turns_within turn rest n) (turn s)
