-- The tokens of functions that are being read, in one list, where each function but the outermost has a start. The starts come with the
-- innermost first.
use Rattle.std.specs.Prelude.{ℕ, ◌≤◌, Bool, true, false, List, [], ◌∷◌, length, take, drop}
use Rattle.btx_bst.specs.refinement.Views.{OpenBodies, open_bodies}

-- the tokens of the innermost function
abbrev pub innermost : {T : Type 0} → List T → List ℕ → List T
innermost tokens [] = tokens
innermost tokens (start ∷ starts) = drop start tokens

-- those of the functions round it
abbrev pub around_in : {T : Type 0} → List T → List ℕ → List (List T)
around_in tokens [] = []
around_in tokens (start ∷ starts) = innermost (take start tokens) starts ∷ around_in (take start tokens) starts

abbrev pub opened_in : {T : Type 0} → List T → List ℕ → OpenBodies T
opened_in tokens starts = open_bodies (innermost tokens starts) (around_in tokens starts)

-- each start lies in what stands before the next one
abbrev pub StartsNest : {T : Type 0} → List T → List ℕ → Type 0
StartsNest tokens [] = Unit {0}
StartsNest tokens (start ∷ starts) = (start ≤ length tokens) × StartsNest (take start tokens) starts

-- a function stands inside others
abbrev pub is_nested : {T : Type 0} → List (List T) → Bool
is_nested [] = false
is_nested (outer ∷ around) = true
