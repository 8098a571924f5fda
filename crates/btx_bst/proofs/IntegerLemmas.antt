-- Integers.
use Rattle.std.proofs.Common.{◌≡◌, ℕ, zero, suc, ◌+◌, ◌-◌, ◌*◌, ◌<◌, ◌≤◌, Bool, true, false, cond, List, [], ◌∷◌, length, drop, get_or, refl, sym, ap, ◌∙◌}
use Rattle.std.proofs.Common.{arith, ◌⊎◌, inl, inr}
use Rattle.std.specs.Prelude.{nat_lt, Some, None, pos, negsuc, min}
use Rattle.std.specs.List.{fold}
use Rattle.std.proofs.lemmas.List.{drop_more, drop_all}
use borrow.Author.Tests.{ltb-true, ltb-false}
use Rattle.btx_bst.specs.language.Words.{digits_value, signed}
use Rattle.btx_bst.specs.refinement.Words.{with_digit}

-- the greatest value that is kept
abbrev pub cap : ℕ
cap = 4294967296

-- two values are the same, or neither is below the cap
abbrev Near : ℕ → ℕ → Type 0
Near m n = (m ≡ n) ⊎ ((cap ≤ m) × (cap ≤ n))

near_digit : (m n d : ℕ) → Near m n → Near (with_digit m d) (with_digit n d)
near_digit m n d (inl e) = inl (ap (λ k. with_digit k d) e)
near_digit m n d (inr h) = let a = h.0 in let b = h.1 in inr (omega arith, omega arith)

near_fold : (ds : List ℕ) (m n : ℕ) → Near m n → Near (fold with_digit m ds) (fold with_digit n ds)
near_fold [] m n h = h
near_fold (d ∷ ds) m n h = near_fold ds (with_digit m d) (with_digit n d) (near_digit m n d h)

near_min : (m n : ℕ) → Near m n → min m cap ≡ min n cap
near_min m n (inl e) = ap (λ k. min k cap) e
near_min m n (inr h) = let a = h.0 in let b = h.1 in omega arith

cap_near : (n : ℕ) → Near (min n cap) n
cap_near n = at (nat_lt n cap) refl where
  at : (t : Bool) → nat_lt n cap ≡ t → Near (min n cap) n
  at true e = inl (omega (arith, ltb-true))
  at false e = inr (omega (arith, ltb-false), omega (arith, ltb-false))

-- the value of more digits, or the cap
abbrev pub capped_from : ℕ → List ℕ → ℕ
capped_from n digits = min (fold with_digit n digits) cap

pub value-next : (digits : List ℕ) (i v w : ℕ) → i < length digits → w ≡ min (v * 10 + (get_or digits i 0 - 48)) cap → capped_from w (drop (i + 1) digits)
    ≡ capped_from v (drop i digits)
value-next digits i v w h e =
    let d = get_or digits i 0 in
    let ds = drop (i + 1) digits in
    let f : ℕ → ℕ = λ k. capped_from k ds in
    ap f e ∙ near_min _ _ (near_fold ds (min (with_digit v d) cap) (with_digit v d) (cap_near (with_digit v d)))
    ∙ ap (capped_from v) (sym (drop_more digits i 0 h))

pub value-last : (digits : List ℕ) (i v : ℕ) → length digits ≤ i → v ≤ cap → capped_from v (drop i digits) ≡ v
value-last digits i v h k = rw (drop_all i digits h) (omega arith)

pub value-whole : (digits : List ℕ) → capped_from 0 digits ≡ min (digits_value digits) cap
unfolding digits_value
value-whole digits = refl

pub ruleset value_steps = (value-next, value-last, value-whole)

signed_big : (minus : Bool) (n : ℕ) → cap ≤ n → signed minus n ≡ None
unfolding signed
signed_big false n h = at (nat_lt n 2147483648) refl where
  at : (t : Bool) → nat_lt n 2147483648 ≡ t → cond t (Some (pos n)) None ≡ None
  at true e = absurd (omega (arith, ltb-true))
  at false e = refl
signed_big true zero h = absurd (omega arith)
signed_big true (suc n) h = at (nat_lt n 2147483648) refl where
  at : (t : Bool) → nat_lt n 2147483648 ≡ t → cond t (Some (negsuc n)) None ≡ None
  at true e = absurd (omega (arith, ltb-true))
  at false e = refl

pub signed_min : (minus : Bool) (n m : ℕ) → m ≡ min n 4294967296 → signed minus m ≡ signed minus n
signed_min minus n m e = at (cap_near n) where
  at : Near (min n cap) n → signed minus m ≡ signed minus n
  at (inl h) = ap (signed minus) (e ∙ h)
  at (inr h) = ap (signed minus) e ∙ signed_big minus (min n cap) h.0 ∙ sym (signed_big minus n h.1)

pub ruleset signed_capped = (signed_min)
