-- Lemmas on abbreviated tokens.
use Rattle.std.proofs.Common.{◌≡◌, ℕ, ◌+◌, ◌<◌, ◌≤◌, true, false, cond, List, [], ◌∷◌, length, drop, refl}
use Rattle.std.proofs.lemmas.List.{drop_all, drop_more, take_rest}
use Rattle.btx_text.specs.declared.element_kind.TextMode.{TextMode}
use Rattle.btx_text.specs.language.Elements.{elements_of}
use Rattle.btx_text.specs.language.Elements as Elements
use Rattle.btx_names.specs.language.FormattedNames.{begins_initial, first_text, initial_of}
use Rattle.btx_names.specs.refinement.Lettered.{from_abbreviation}

-- ---- where it begins

pub lettered_here : (s : List ℕ) (i : ℕ) → i < length s → begins_initial (drop i s) ≡ true → from_abbreviation (drop i s) ≡ drop i s
unfolding from_abbreviation
lettered_here s i h test = let split = drop_more s i 0 h in rw split (rw (rw split at test) refl)

pub lettered_next : (s : List ℕ) (i : ℕ) → i < length s → begins_initial (drop i s) ≡ false → from_abbreviation (drop i s) ≡ from_abbreviation (drop (i + 1) s)
unfolding from_abbreviation
lettered_next s i h test = let split = drop_more s i 0 h in rw split (rw (rw split at test) refl)

pub lettered_all : (s : List ℕ) (i : ℕ) → length s ≤ i → from_abbreviation (drop i s) ≡ []
unfolding from_abbreviation
lettered_all s i h = rw (drop_all i s h) refl

pub ruleset lettered_steps = (lettered_here, lettered_next, lettered_all, take_rest)

-- ---- what stands for a token

pub elements_of_nothing : (mode : TextMode) → elements_of mode [] ≡ []
unfolding elements_of Elements.elements_from
elements_of_nothing mode = refl

-- it is the first element from where it begins
pub initial_from : (mode : TextMode) (s lettered : List ℕ) → lettered ≡ from_abbreviation s → initial_of mode s ≡ first_text (elements_of mode lettered)
unfolding initial_of from_abbreviation
initial_from mode s lettered is = rw is (at s) where
  at : (s : List ℕ) → initial_of mode s ≡ first_text (elements_of mode (from_abbreviation s))
  at [] = rw (elements_of_nothing mode) refl
  at (b ∷ bs) = elim (begins_initial (b ∷ bs)) as (λ t. cond t (first_text (elements_of mode (b ∷ bs))) (initial_of mode bs)
      ≡ first_text (elements_of mode (cond t (b ∷ bs) (from_abbreviation bs)))) [ true ↦ refl | false ↦ at bs ]

pub ruleset initial_steps = (initial_from)
