-- Sums, differences and comparisons of integers within bounds.
use Rattle.std.proofs.Common.{◌≡◌, ℕ, ℤ, pos, negsuc, ◌^◌, Bool, true, false, cond, Option, Some, None, sym, subst, ◌∙◌, arith}
use Rattle.std.specs.Prelude.{◌≤ℤ◌, int_lt}
use Rattle.std.specs.Ordering.{int_eq}
use Rattle.std.proofs.lemmas.Int.{ints}
use Rattle.std.proofs.lemmas.Bool.{lt-ltb}
use Rattle.std.proofs.lemmas.Bool.Decides.{Decides-int_eq, Decides-like, same_from_decides}
use Rattle.btx_check.specs.declared.description.Value.{Value}
use Rattle.btx_check.specs.declared.description.Value.TheVariants as value
use Rattle.btx_step.specs.language.Arithmetic.{fits}
use Rattle.btx_stack.specs.declared.literal.Literal.TheVariants.{Integer}
use Rattle.btx_check.specs.declared.description.Upper.{Upper}
use Rattle.btx_check.specs.declared.description.Upper.TheVariants as upper
use Rattle.btx_check.specs.Bounds.{Narrows, Matches}
use Rattle.btx_check.specs.Descriptions.{Above, Below, Is, open_end}

fits_small : (z : ℤ) → negsuc 2099999999 ≤ℤ z → z ≤ℤ pos 2100000000 → fits z ≡ true
fits_small (pos n) l h = lt-ltb n (2 ^ 31) (omega (arith, ints, h))
fits_small (negsuc n) l h = lt-ltb n (2 ^ 31) (omega (arith, ints, l))

-- a result that fits
pub result_fits : (left : ℕ) (z : ℤ) (low : Option ℤ) (high : Upper) → negsuc 2099999999 ≤ℤ z → z ≤ℤ pos 2100000000 → Above low z → Below left high z
    → Is left (value.Integer low high) (Integer (cond (fits z) z (pos 0)))
result_fits left z low high l h a b = subst (λ (e : Bool). Is left (value.Integer low high) (Integer (cond e z (pos 0)))) (sym (fits_small z l h)) (a, b)

-- a result that may not fit, and is not below 0 where it does
pub result_from_zero : (left : ℕ) (z : ℤ) → pos 0 ≤ℤ z → Is left (value.Integer (Some (pos 0)) open_end) (Integer (cond (fits z) z (pos 0)))
result_from_zero left z h = either (fits z)
  where
    either : (b : Bool) → Is left (value.Integer (Some (pos 0)) open_end) (Integer (cond b z (pos 0)))
    either true = (h, tt)
    either false = (omega (arith, ints), tt)

-- a result that may not fit, and is not above 0 where it does
pub result_to_zero : (left : ℕ) (z : ℤ) → z ≤ℤ pos 0 → Is left (value.Integer None (upper.Number (Some (pos 0)))) (Integer (cond (fits z) z (pos 0)))
result_to_zero left z h = either (fits z)
  where
    either : (b : Bool) → Is left (value.Integer None (upper.Number (Some (pos 0)))) (Integer (cond b z (pos 0)))
    either true = (tt, h)
    either false = (tt, omega (arith, ints))

-- a result of which nothing is known
pub result_any : (left : ℕ) (z : ℤ) → Is left (value.Integer None open_end) (Integer (cond (fits z) z (pos 0)))
result_any left z = either (fits z)
  where
    either : (b : Bool) → Is left (value.Integer None open_end) (Integer (cond b z (pos 0)))
    either true = (tt, tt)
    either false = (tt, tt)

pub count_at : (d : Value) (left : ℕ) (n : ℤ) → d ≡ value.Integer (Some (pos 0)) open_end → Is left (value.Integer (Some (pos 0)) open_end) (Integer n)
    → Is left d (Integer n)
count_at d left n e h = subst (λ (v : Value). Is left v (Integer n)) (sym e) h

pub integer_at : (d : Value) (left : ℕ) (n : ℤ) → d ≡ value.Integer None open_end → Is left (value.Integer None open_end) (Integer n) → Is left d (Integer n)
integer_at d left n e h = subst (λ (v : Value). Is left v (Integer n)) (sym e) h

-- ---- comparisons

below_less : (left : ℕ) (high : Upper) (x y : ℤ) → int_lt y x ≡ false → Below left high y → Below left high x
below_less left (upper.Number None) x y e h = tt
below_less left (upper.Number (Some n)) x y e h = grind (arith, ints)
below_less left upper.Counter x y e h = grind (arith, ints)

above_more : (low : Option ℤ) (x y : ℤ) → int_lt y x ≡ false → Above low x → Above low y
above_more None x y e h = tt
above_more (Some n) x y e h = grind (arith, ints)

pub narrows_up : (lo : Option ℤ) (hi : Upper) (lo2 : Option ℤ) (hi2 : Upper) (n r : Option ℤ) (p l : Upper)
    → ((x y : ℤ) → Above lo2 y → int_lt y x ≡ true → Above n x) → ((m : ℤ) → Above lo m → Above n m → Above r m)
    → ((left : ℕ) (x y : ℤ) → Below left hi x → int_lt y x ≡ true → Below left p y) → ((left : ℕ) (m : ℤ) → Below left hi2 m → Below left p m → Below left l m)
    → Narrows true (value.Integer lo hi) (value.Integer lo2 hi2) (value.Integer r hi) (value.Integer lo2 l)
narrows_up lo hi lo2 hi2 n r p l f g h k left x y o q e = ((g x o.0 (f x y q.0 e), o.1), (q.0, k left y q.1 (h left x y o.1 e)))

pub narrows_down : (lo : Option ℤ) (hi : Upper) (lo2 : Option ℤ) (hi2 : Upper) (r : Option ℤ) (l : Upper)
    → ((left : ℕ) (m : ℤ) → Below left hi m → Below left hi2 m → Below left l m) → ((m : ℤ) → Above lo2 m → Above lo m → Above r m)
    → Narrows false (value.Integer lo hi) (value.Integer lo2 hi2) (value.Integer lo l) (value.Integer r hi2)
narrows_down lo hi lo2 hi2 r l f g left x y o q e = ((o.0, f left x o.1 (below_less left hi2 x y e q.1)), (g y q.0 (above_more lo x y e o.0), q.1))

int_eq_is : (x y : ℤ) → int_eq x y ≡ true → x ≡ y
int_eq_is x y e = (Decides-int_eq x y).0 e

int_eq_back : (x y : ℤ) → int_eq x y ≡ false → int_eq y x ≡ false
int_eq_back x y e = same_from_decides (int_eq y x) (int_eq x y) (Decides-like (int_eq y x) (λ q. sym q) (λ q. sym q) (Decides-int_eq y x)) (Decides-int_eq x y)
    ∙ e

-- both are what both say
pub matches_same : (c d r : Value) → ((left : ℕ) (n : ℤ) → Is left c (Integer n) → Is left d (Integer n) → Is left r (Integer n)) → Matches true c d r r
matches_same c d r f left x y o p e =
    let q = int_eq_is x y e in
    let k : Is left r (Integer x) = f left x o (subst (λ (n : ℤ). Is left d (Integer n)) (sym q) p) in
    (k, subst (λ (n : ℤ). Is left r (Integer n)) q k)

-- each is what it is where the other is not the same
pub matches_other : (c d c' d' : Value) → ((left : ℕ) (x y : ℤ) → Is left c (Integer x) → Is left d (Integer y) → int_eq x y ≡ false → Is left c' (Integer x))
    → ((left : ℕ) (x y : ℤ) → Is left d (Integer x) → Is left c (Integer y) → int_eq x y ≡ false → Is left d' (Integer x))
    → Matches false c d c' d'
matches_other c d c' d' f g left x y o p e = (f left x y o p e, g left y x p o (int_eq_back x y e))
