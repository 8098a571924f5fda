-- Lemmas on items.
use Rattle.std.proofs.Common.{◌≡◌, ℕ, zero, suc, ◌+◌, ◌<◌, true, false, eqb, List, [], ◌∷◌, length, drop, get_or, refl, arith, Some, None}
use Rattle.std.proofs.lemmas.Bool.{false_from_ne_true}
use Rattle.std.proofs.lemmas.List.{take_rest}
use Rattle.memchr.specs.Find.{IsFirstByte, is_byte}
use Rattle.btx_bib.specs.language.Grammar.Items.{behind_at}

at-some : (s : List ℕ) (k : ℕ) → k < length s → ((j : ℕ) → j < k → eqb (get_or s j 0) 64 ≡ true → ⊥) → eqb (get_or s k 0) 64 ≡ true
    → behind_at s ≡ Some (drop (suc k) s)
unfolding behind_at
at-some [] k lt before here = absurd (omega arith)
at-some (b ∷ bs) zero lt before here = rw here refl
at-some (b ∷ bs) (suc k) lt before here =
    let no : eqb b 64 ≡ false = false_from_ne_true _ (before 0 (omega arith)) in
    rw no (at-some bs k (omega arith) (λ j less. before (suc j) (omega arith)) here)

pub behind_at-some : (s : List ℕ) (k : ℕ) → IsFirstByte (is_byte 64) s (Some k) → behind_at s ≡ Some (drop (k + 1) s)
behind_at-some s k h =
    let e : k + 1 ≡ suc k = omega arith in
    rw e (at-some s k h.0.high (λ j less. h.0.before j (omega arith) less) h.1)

at-none : (s : List ℕ) → ((j : ℕ) → j < length s → eqb (get_or s j 0) 64 ≡ true → ⊥) → behind_at s ≡ None
unfolding behind_at
at-none [] h = refl
at-none (b ∷ bs) h =
    let no : eqb b 64 ≡ false = false_from_ne_true _ (h 0 (omega arith)) in
    rw no (at-none bs (λ j less. h (suc j) (omega arith)))

pub behind_at-none : (s : List ℕ) → IsFirstByte (is_byte 64) s None → behind_at s ≡ None
behind_at-none s h = at-none s (λ j less. h j (omega arith) less)

pub ruleset at_steps = (behind_at-some, behind_at-none, take_rest)
