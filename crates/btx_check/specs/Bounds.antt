-- Descriptions of integers: what sums and comparisons say of them.
use Rattle.std.specs.Prelude.{◌≡◌, ℕ, suc, ◌≤◌, ℤ, pos, int_lt, cond, Bool}
use Rattle.std.specs.Ordering.{int_eq}
use Rattle.btx_stack.specs.declared.literal.Literal.TheVariants.{Integer}
use Rattle.btx_step.specs.language.Arithmetic.{fits}
use Rattle.btx_step.specs.language.Control.{is_positive}
use Rattle.btx_check.specs.declared.description.Value.{Value}
use Rattle.btx_check.specs.Promise.{most_steps}
use Rattle.btx_check.specs.Descriptions.{Is}

-- `r` describes the sum (or the difference) of what `c` and `d` describe, one step later; a result that doesn't fit 32 bits is 0
abbrev pub SumIs : (ℤ → ℤ → ℤ) → Value → Value → Value → Type 0
SumIs op c d r = (left : ℕ) → suc left ≤ most_steps → (x y : ℤ) → Is (suc left) c (Integer x) → Is (suc left) d (Integer y)
    → Is left r (Integer (cond (fits (op x y)) (op x y) (pos 0)))

-- the two descriptions after a comparison of this answer: whether the first integer is greater than the second
abbrev pub Narrows : Bool → Value → Value → Value → Value → Type 0
Narrows b c d c' d' = (left : ℕ) (x y : ℤ) → Is left c (Integer x) → Is left d (Integer y) → int_lt y x ≡ b → Is left c' (Integer x) × Is left d' (Integer y)

-- `c` describes the integers of `e` that are above 0, and `d` the others
abbrev pub Splits : Value → Value → Value → Type 0
Splits e c d = (left : ℕ) (n : ℤ) → Is left e (Integer n) → Is left (cond (is_positive n) c d) (Integer n)

-- the two descriptions after `=` of this answer
abbrev pub Matches : Bool → Value → Value → Value → Value → Type 0
Matches b c d c' d' = (left : ℕ) (x y : ℤ) → Is left c (Integer x) → Is left d (Integer y) → int_eq x y ≡ b → Is left c' (Integer x) × Is left d' (Integer y)
