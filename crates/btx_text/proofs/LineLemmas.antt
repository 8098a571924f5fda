-- Lemmas on the lines of a text.
use Rattle.std.proofs.Common.{◌≡◌, ℕ, zero, suc, ◌+◌, ◌-◌, ◌<◌, ◌≤◌, Bool, true, false, cond, eqb, List, [], ◌∷◌, ◌++◌, length, take, drop, get_or, map, refl}
use Rattle.std.proofs.Common.{sym, ap, arith, Some, None}
use Rattle.std.proofs.lemmas.List.{take_more, take_rest}
use Rattle.std.proofs.lemmas.Bool.{false_from_ne_true}
use Rattle.memchr.specs.Find.{IsFirstByte, is_byte}
use Rattle.btx_text.specs.language.Class.{is_white}
use Rattle.btx_text.specs.language.Lines.{line_pieces, white_before, trimmed, lines_of}
use Rattle.std.specs.List.{onto_first}

-- ---- the first piece

first_step : (b : ℕ) (bs : List ℕ) (k : ℕ) (t : Bool) → t ≡ false → line_pieces bs ≡ take k bs ∷ line_pieces (drop (suc k) bs)
    → cond t ([] ∷ line_pieces bs) (onto_first b (line_pieces bs)) ≡ (b ∷ take k bs) ∷ line_pieces (drop (suc k) bs)
first_step b bs k t is h = rw (is, h) refl

pieces_of-first : (s : List ℕ) (k : ℕ) → k < length s → ((j : ℕ) → j < k → eqb (get_or s j 0) 10 ≡ true → ⊥) → eqb (get_or s k 0) 10 ≡ true
    → line_pieces s ≡ take k s ∷ line_pieces (drop (suc k) s)
unfolding line_pieces
pieces_of-first [] k lt before here = absurd (omega arith)
pieces_of-first (b ∷ bs) zero lt before here = rw here refl
pieces_of-first (b ∷ bs) (suc k) lt before here =
    first_step b bs k (eqb b 10) (false_from_ne_true _ (before 0 (omega arith)))
    (pieces_of-first bs k (omega arith) (λ j less. before (suc j) (omega arith)) here)

pieces_of-last : (s : List ℕ) → 0 < length s → ((j : ℕ) → j < length s → eqb (get_or s j 0) 10 ≡ true → ⊥) → line_pieces s ≡ s ∷ []
unfolding line_pieces
pieces_of-last [] some none = absurd (omega arith)
pieces_of-last (b ∷ []) some none = let no : eqb b 10 ≡ false = false_from_ne_true _ (none 0 (omega arith)) in rw no refl
pieces_of-last (b ∷ c ∷ bs) some none =
    let no : eqb b 10 ≡ false = false_from_ne_true _ (none 0 (omega arith)) in
    rw no (ap (onto_first b) (pieces_of-last (c ∷ bs) (omega arith) (λ j less. none (suc j) (omega arith))))

-- ---- as memchr finds it

pub lines_of-some : (s : List ℕ) (k : ℕ) → IsFirstByte (is_byte 10) s (Some k) → lines_of s ≡ trimmed (take k s) ∷ lines_of (drop (k + 1) s)
lines_of-some s k h =
    let e : k + 1 ≡ suc k = omega arith in
    rw e (ap (map trimmed) (pieces_of-first s k h.0.high (λ j less. h.0.before j (omega arith) less) h.1))

pub lines_of-none : (s : List ℕ) → 0 < length s → IsFirstByte (is_byte 10) s None → lines_of s ≡ trimmed s ∷ []
lines_of-none s some h = ap (map trimmed) (pieces_of-last s some (λ j less. h j (omega arith) less))

pub lines_of-nil : (s : List ℕ) → length s ≡ 0 → lines_of s ≡ []
unfolding line_pieces
lines_of-nil [] h = refl
lines_of-nil (b ∷ bs) h = absurd (omega arith)

pub ruleset line_steps = (lines_of-some, lines_of-none, lines_of-nil, take_rest)

-- ---- whitespace at the end

trimmed-white : (s : List ℕ) (b : ℕ) → is_white b ≡ true → trimmed (s ++ b ∷ []) ≡ trimmed s
unfolding trimmed
trimmed-white [] b h = rw h refl
trimmed-white (c ∷ cs) b h = rw (trimmed-white cs b h) refl

trimmed-ink : (s : List ℕ) (b : ℕ) → is_white b ≡ false → trimmed (s ++ b ∷ []) ≡ s ++ b ∷ []
unfolding trimmed
trimmed-ink [] b h = rw h refl
trimmed-ink (c ∷ cs) b h = rw (trimmed-ink cs b h) (at cs (is_white c)) where
  at : (cs : List ℕ) (t : Bool) → cond t (white_before c (cs ++ b ∷ [])) (c ∷ (cs ++ b ∷ [])) ≡ c ∷ (cs ++ b ∷ [])
  at [] true = refl
  at (d ∷ ds) true = refl
  at cs false = refl

pub trimmed-take_white : (s : List ℕ) (end : ℕ) → 0 < end → end ≤ length s → is_white (get_or s (end - 1) 0) ≡ true → trimmed (take (end - 1) s)
    ≡ trimmed (take end s)
trimmed-take_white s end some le h =
    let e : end - 1 + 1 ≡ end = omega arith in
    let lt : end - 1 < length s = omega arith in
    let cut = take_more s (end - 1) 0 lt in
    let cut' : take end s ≡ take (end - 1) s ++ get_or s (end - 1) 0 ∷ [] = rw e at cut in
    rw cut' (sym (trimmed-white (take (end - 1) s) (get_or s (end - 1) 0) h))

pub trimmed-take_ink : (s : List ℕ) (end : ℕ) → 0 < end → end ≤ length s → is_white (get_or s (end - 1) 0) ≡ false → trimmed (take end s) ≡ take end s
trimmed-take_ink s end some le h =
    let e : end - 1 + 1 ≡ end = omega arith in
    let lt : end - 1 < length s = omega arith in
    let cut' : take end s ≡ take (end - 1) s ++ get_or s (end - 1) 0 ∷ [] = rw e at (take_more s (end - 1) 0 lt) in
    rw cut' (trimmed-ink (take (end - 1) s) (get_or s (end - 1) 0) h)

pub trimmed-take_zero : (s : List ℕ) → trimmed (take 0 s) ≡ []
unfolding trimmed
trimmed-take_zero s = refl

pub ruleset trim_steps = (trimmed-take_white, trimmed-take_ink, trimmed-take_zero)
