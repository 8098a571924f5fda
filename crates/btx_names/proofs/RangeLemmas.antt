-- Lemmas on the ranges of the parts of a name.
use Rattle.std.proofs.Common.{◌≡◌, ℕ, zero, suc, ◌<◌, ◌≤◌, Bool, true, false, cond, ltb, List, [], ◌∷◌, length, refl, arith}
use Rattle.std.proofs.lemmas.Bool.{ltb-true, lt-ltb}
use Rattle.btx_names.specs.language.Tokens.{NameToken, tokens_of, tokens_from}
use Rattle.btx_names.specs.refinement.Steps.{passes}
use Rattle.btx_names.specs.declared.token_counts.TokenTest.{TokenTest}
use Rattle.btx_names.specs.declared.token_counts.TokenTest.TheVariants.{Von, Apart}
use Rattle.btx_names.specs.refinement.TokenLists.{AreRangesOf, surname_in}
use Rattle.btx_names.specs.declared.name_ranges.Ranges.{Ranges}
use Rattle.btx_names.specs.declared.token_list.TokenList.{TokenList}
use Rattle.btx_names.specs.language.NameParts.{before_final, up_to_last, before_first, von_end, last_start}
use Rattle.btx_names.specs.refinement.NameParts.{von_start}

-- up to the last before the final token: fewer than all
pub up_to_last-lt : (test : TokenTest) (token : NameToken) (tokens : List NameToken) → up_to_last (passes test) (before_final (token ∷ tokens))
    < length (token ∷ tokens)
unfolding up_to_last before_final
up_to_last-lt test token [] = omega arith
up_to_last-lt test token (next ∷ tokens) =
    at (passes test token) (up_to_last (passes test) (before_final (next ∷ tokens))) (up_to_last-lt test next tokens) where
      at : (t : Bool) (n : ℕ) → n < length (next ∷ tokens) → cond (ltb 0 n) (suc n) (cond t 1 0) < suc (length (next ∷ tokens))
      at t zero h = low t where
        low : (t : Bool) → cond t 1 0 < suc (length (next ∷ tokens))
        low true = omega arith
        low false = omega arith
      at t (suc n) h = let some : ltb 0 (suc n) ≡ true = lt-ltb 0 (suc n) (omega arith) in rw some (omega arith)

pub up_to_last-le : (test : TokenTest) (tokens : List NameToken) → up_to_last (passes test) (before_final tokens) ≤ length tokens
unfolding up_to_last before_final
up_to_last-le test [] = omega arith
up_to_last-le test (token ∷ tokens) = let h = up_to_last-lt test token tokens in omega arith

-- where a von token stands before the final one, the first von token does
pub before_first-le : (test : TokenTest) (tokens : List NameToken) → 0 < up_to_last (passes test) (before_final tokens) →
    before_first (passes test) tokens ≤ up_to_last (passes test) (before_final tokens)
unfolding up_to_last before_final before_first
before_first-le test [] some = absurd (omega arith)
before_first-le test (token ∷ []) some = absurd (omega arith)
before_first-le test (token ∷ next ∷ tokens) some =
    at (passes test token) (up_to_last (passes test) (before_final (next ∷ tokens))) some (before_first-le test (next ∷ tokens)) where
      at : (t : Bool) (n : ℕ) → 0 < cond (ltb 0 n) (suc n) (cond t 1 0) → (0 < n → before_first (passes test) (next ∷ tokens) ≤ n) →
          cond t 0 (suc (before_first (passes test) (next ∷ tokens))) ≤ cond (ltb 0 n) (suc n) (cond t 1 0)
      at true n some more = omega arith
      at false zero some more = absurd (omega arith)
      at false (suc n) some more =
          let is : ltb 0 (suc n) ≡ true = lt-ltb 0 (suc n) (omega arith) in
          let h = more (omega arith) in
          rw is (omega arith)

-- ---- the ranges of a name without commas

pub last_start-le : (tokens : List NameToken) → last_start tokens ≤ length tokens
last_start-le tokens = at (ltb 0 (von_end tokens)) (up_to_last-le Von tokens) (up_to_last-le Apart tokens) where
  at : (t : Bool) → von_end tokens ≤ length tokens → up_to_last (passes Apart) (before_final tokens) ≤ length tokens →
      cond t (von_end tokens) (up_to_last (passes Apart) (before_final tokens)) ≤ length tokens
  at true h g = h
  at false h g = g

pub von_start-le : (tokens : List NameToken) → von_start tokens ≤ last_start tokens
von_start-le tokens = at (ltb 0 (von_end tokens)) refl where
  at : (t : Bool) → ltb 0 (von_end tokens) ≡ t →
      cond t (before_first (passes Von) tokens) (cond t (von_end tokens) (up_to_last (passes Apart) (before_final tokens)))
      ≤ cond t (von_end tokens) (up_to_last (passes Apart) (before_final tokens))
  at true is = before_first-le Von tokens (ltb-true 0 (von_end tokens) is)
  at false is = omega arith

-- the ranges of any name lie in its first section, in order
pub ranges_within : (bytes : List ℕ) (list : TokenList) (ranges : Ranges) → AreRangesOf bytes list ranges →
    (ranges.von_start ≤ ranges.last_start) × (ranges.last_start ≤ length (surname_in bytes list))
ranges_within bytes list ranges is = rw (is.von_start, is.last_start) (at list.has_commas (surname_in bytes list)) where
  at : (commas : Bool) (surname : List NameToken) →
      (cond commas 0 (von_start surname) ≤ cond commas (von_end surname) (last_start surname))
      × (cond commas (von_end surname) (last_start surname) ≤ length surname)
  at true surname = (omega arith, up_to_last-le Von surname)
  at false surname = (von_start-le surname, last_start-le surname)

pub tokens_of_nothing : tokens_of [] ≡ []
unfolding tokens_of tokens_from
tokens_of_nothing = refl
