-- A squeezed text stays squeezed without the whitespace at its ends.
use Rattle.std.proofs.Common.{◌≡◌, ℕ, zero, suc, ◌-◌, Bool, true, false, cond, List, [], ◌∷◌, length, take, drop, ◌&&◌, not, eqb, refl, sym, ◌∙◌, ap}
use Rattle.std.proofs.lemmas.Bool.{true≢false}
use Rattle.btx_bib.specs.declared.grammar.byte_sets.ByteSet.TheVariants.{Gap}
use Rattle.btx_bib.specs.language.Grammar.ByteSets.{is_gap, past, longest_run_len}
use Rattle.btx_bib.specs.refinement.Grammar.Squeezing.{is_squeezed, ends_in_gap, without_gaps}
use Rattle.btx_bib.proofs.GrammarLemmas.SqueezeLemmas.{shaped-inner}

squeezed-take : (white : Bool) (n : ℕ) (s : List ℕ) → is_squeezed white s ≡ true → is_squeezed white (take n s) ≡ true
unfolding is_squeezed
squeezed-take white zero [] h = refl
squeezed-take white (suc n) [] h = refl
squeezed-take white zero (b ∷ bs) h = refl
squeezed-take white (suc n) (b ∷ bs) h = at (is_gap b) (eqb b 32 && not white) h (squeezed-take true n bs) (squeezed-take false n bs) where
  at : (g ok : Bool) → cond g (ok && is_squeezed true bs) (is_squeezed false bs) ≡ true → (is_squeezed true bs ≡ true → is_squeezed true (take n bs) ≡ true)
      → (is_squeezed false bs ≡ true → is_squeezed false (take n bs) ≡ true) →
      cond g (ok && is_squeezed true (take n bs)) (is_squeezed false (take n bs)) ≡ true
  at true true h after_white after_other = after_white h
  at true false h after_white after_other = h
  at false ok h after_white after_other = after_other h

squeezed-less : (s : List ℕ) → is_squeezed true s ≡ true → is_squeezed false s ≡ true
unfolding is_squeezed
squeezed-less [] h = refl
squeezed-less (b ∷ bs) h = at (is_gap b) (eqb b 32) h where
  at : (g t : Bool) → cond g ((t && false) && is_squeezed true bs) (is_squeezed false bs) ≡ true
      → cond g ((t && true) && is_squeezed true bs) (is_squeezed false bs) ≡ true
  at true true h = absurd (true≢false (sym h))
  at true false h = absurd (true≢false (sym h))
  at false t h = h

-- after whitespace
squeezed-behind : (b : ℕ) (bs : List ℕ) → is_gap b ≡ true → is_squeezed false (b ∷ bs) ≡ true → is_squeezed true bs ≡ true
unfolding is_squeezed
squeezed-behind b bs is h = at (eqb b 32) (ap (λ (g : Bool). cond g ((eqb b 32 && true) && is_squeezed true bs) (is_squeezed false bs)) (sym is) ∙ h) where
  at : (t : Bool) → ((t && true) && is_squeezed true bs) ≡ true → is_squeezed true bs ≡ true
  at true e = e
  at false e = absurd (true≢false (sym e))

squeezed-past : (s : List ℕ) → is_squeezed false s ≡ true → is_squeezed false (past Gap s) ≡ true
unfolding longest_run_len
squeezed-past [] h = h
squeezed-past (b ∷ bs) h = at (is_gap b) refl (squeezed-past bs) where
  at : (g : Bool) → is_gap b ≡ g → (is_squeezed false bs ≡ true → is_squeezed false (past Gap bs) ≡ true)
      → is_squeezed false (drop (cond g (suc (longest_run_len Gap bs)) 0) (b ∷ bs)) ≡ true
  at true is on = on (squeezed-less bs (squeezed-behind b bs is h))
  at false is on = h

pub squeezed-gaps : (s : List ℕ) → is_squeezed false s ≡ true → is_squeezed false (without_gaps s) ≡ true
squeezed-gaps s h = at (ends_in_gap (past Gap s)) where
  at : (t : Bool) → is_squeezed false (cond t (take (length (past Gap s) - 1) (past Gap s)) (past Gap s)) ≡ true
  at true = squeezed-take false (length (past Gap s) - 1) (past Gap s) (squeezed-past s h)
  at false = squeezed-past s h

pub ruleset trimming = (squeezed-gaps, shaped-inner)
