-- Turns, where each leaves less.
use Rattle.std.proofs.Common.{◌≡◌, ℕ, zero, suc, ◌<◌, refl, arith}
use Rattle.btx_bst.specs.language.Turns.{Turn, Again, Ends, after_turn, turns_within}

-- something of what is known before a further turn, or of the end
abbrev pub OnTurn : {S R : Type 0} → (S → Type 0) → (R → Type 0) → Turn S R → Type 0
OnTurn Q P (Again s) = Q s
OnTurn Q P (Ends r) = P r

-- each turn leaves less
abbrev pub Falls : {S R : Type 0} → (S → ℕ) → (S → Turn S R) → Type 0
Falls {S = S} {R = R} left turn = (s : S) → OnTurn (λ t. left t < left s) (λ (r : R). Unit {0}) (turn s)

enough : {S R : Type 0} (turn : S → Turn S R) (rest : S → R) (left : S → ℕ) → Falls left turn → (a b : ℕ) (s : S) → left s < a → left s < b
    → turns_within turn rest a s ≡ turns_within turn rest b s
unfolding turns_within
enough turn rest left falls zero b s h k = absurd (omega arith)
enough turn rest left falls (suc a) zero s h k = absurd (omega arith)
enough {S = S} {R = R} turn rest left falls (suc a) (suc b) s h k = at (turn s) (falls s) (enough turn rest left falls a b) where
  at : (t : Turn S R) → OnTurn (λ u. left u < left s) (λ (r : R). Unit {0}) t
      → ((u : S) → left u < a → left u < b → turns_within turn rest a u ≡ turns_within turn rest b u) → after_turn (turns_within turn rest a) t
      ≡ after_turn (turns_within turn rest b) t
  at (Again u) l more = more u (omega arith) (omega arith)
  at (Ends r) l more = refl

-- all turns are the first one and those that follow
pub turns-next : {S R : Type 0} (turn : S → Turn S R) (rest : S → R) (left : S → ℕ) → Falls left turn → (s : S) → turns_within turn rest (suc (left s)) s
    ≡ after_turn (λ t. turns_within turn rest (suc (left t)) t) (turn s)
unfolding turns_within
turns-next {S = S} {R = R} turn rest left falls s = at (turn s) (falls s) where
  at : (t : Turn S R) → OnTurn (λ u. left u < left s) (λ (r : R). Unit {0}) t → after_turn (turns_within turn rest (left s)) t
      ≡ after_turn (λ t. turns_within turn rest (suc (left t)) t) t
  at (Again u) l = enough turn rest left falls (left s) (suc (left u)) u (omega arith) (omega arith)
  at (Ends r) l = refl

-- what each turn keeps, the end keeps
pub turns-keep : {S R : Type 0} (Q : S → Type 0) (P : R → Type 0) (turn : S → Turn S R) (rest : S → R) → ((s : S) → Q s → OnTurn Q P (turn s))
    → ((s : S) → Q s → P (rest s)) → (n : ℕ) (s : S) → Q s → P (turns_within turn rest n s)
unfolding turns_within
turns-keep Q P turn rest each last zero s h = last s h
turns-keep {S = S} {R = R} Q P turn rest each last (suc n) s h = at (turn s) (each s h) (turns-keep Q P turn rest each last n) where
  at : (t : Turn S R) → OnTurn Q P t → ((u : S) → Q u → P (turns_within turn rest n u)) → P (after_turn (turns_within turn rest n) t)
  at (Again u) k more = more u k
  at (Ends r) k more = k
