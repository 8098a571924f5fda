-- Lists of entries: what holds of each stays so in other orders, and no entry stands in them twice.
use Rattle.std.proofs.Common.{ℕ, zero, suc, ◌+◌, ◌≤◌, ◌<◌, List, [], ◌∷◌, ◌++◌, reverse, Bool, true, false, cond, sym, subst, arith}
use Rattle.std.specs.Prelude.{◌≢◌}
use Rattle.std.specs.List.{range_with_len}
use Rattle.std.proofs.lemmas.List.{reverse-append}
use Rattle.btx_step.specs.language.Sorting.{inserted, sorted_by, sorted}

-- it holds of each of the list
abbrev pub All : (ℕ → Type 0) → List ℕ → Type 0
All P [] = Unit {0}
All P (x ∷ xs) = P x × All P xs

pub all_map : (P Q : ℕ → Type 0) → ((x : ℕ) → P x → Q x) → (xs : List ℕ) → All P xs → All Q xs
all_map P Q f [] h = tt
all_map P Q f (x ∷ xs) h = (f x h.0, all_map P Q f xs h.1)

pub all_both : (P Q R : ℕ → Type 0) → ((x : ℕ) → P x → Q x → R x) → (xs : List ℕ) → All P xs → All Q xs → All R xs
all_both P Q R f [] h g = tt
all_both P Q R f (x ∷ xs) h g = (f x h.0 g.0, all_both P Q R f xs h.1 g.1)

all_append : (P : ℕ → Type 0) (xs ys : List ℕ) → All P xs → All P ys → All P (xs ++ ys)
all_append P [] ys h g = g
all_append P (x ∷ xs) ys h g = (h.0, all_append P xs ys h.1 g)

pub all_reverse : (P : ℕ → Type 0) (xs : List ℕ) → All P xs → All P (reverse xs)
all_reverse P [] h = tt
all_reverse P (x ∷ xs) h = subst (All P) (sym (reverse-append (x ∷ []) xs)) (all_append P (reverse xs) (x ∷ []) (all_reverse P xs h.1) (h.0, tt))

pub all_range : (P : ℕ → Type 0) (a n : ℕ) → ((x : ℕ) → a ≤ x → x < a + n → P x) → All P (range_with_len a n)
all_range P a zero f = tt
all_range P a (suc n) f = (f a (omega arith) (omega arith), all_range P (a + 1) n (λ x l g. f x (omega (arith, l)) (omega (arith, g))))

all_pick : (P : ℕ → Type 0) (x y : ℕ) (ys zs : List ℕ) (b : Bool) → P x → P y → All P ys → All P zs → All P (cond b (y ∷ zs) (x ∷ y ∷ ys))
all_pick P x y ys zs true hx hy h g = (hy, g)
all_pick P x y ys zs false hx hy h g = (hx, (hy, h))

all_inserted : (P : ℕ → Type 0) (lt : ℕ → ℕ → Bool) (x : ℕ) (ys : List ℕ) → P x → All P ys → All P (inserted lt x ys)
all_inserted P lt x [] l h = (l, tt)
all_inserted P lt x (y ∷ ys) l h = all_pick P x y ys (inserted lt x ys) (lt y x) l h.0 h.1 (all_inserted P lt x ys l h.1)

all_sorted_by : (P : ℕ → Type 0) (lt : ℕ → ℕ → Bool) (xs : List ℕ) → All P xs → All P (sorted_by lt xs)
unfolding sorted_by
all_sorted_by P lt [] h = tt
all_sorted_by P lt (x ∷ xs) h = all_inserted P lt x (sorted_by lt xs) h.0 (all_sorted_by P lt xs h.1)

pub all_sorted : (P : ℕ → Type 0) (key : ℕ → List ℕ) (xs : List ℕ) → All P xs → All P (sorted key xs)
all_sorted P key xs h = all_sorted_by P _ xs h

-- ---- no entry stands in a list twice

-- an entry stands nowhere in the list
abbrev pub Apart : ℕ → List ℕ → Type 0
Apart x xs = All (λ y. y ≢ x) xs

abbrev pub Distinct : List ℕ → Type 0
Distinct [] = Unit {0}
Distinct (x ∷ xs) = Apart x xs × Distinct xs

pub turned_round : (x y : ℕ) → x ≢ y → y ≢ x
turned_round x y h e = h (sym e)

distinct_end : (xs : List ℕ) (y : ℕ) → Distinct xs → Apart y xs → Distinct (xs ++ y ∷ [])
distinct_end [] y h g = (tt, tt)
distinct_end (x ∷ xs) y h g = (all_append (λ z. z ≢ x) xs (y ∷ []) h.0 (turned_round x y g.0, tt), distinct_end xs y h.1 g.1)

pub distinct_reverse : (xs : List ℕ) → Distinct xs → Distinct (reverse xs)
distinct_reverse [] h = tt
distinct_reverse (x ∷ xs) h = subst Distinct (sym (reverse-append (x ∷ []) xs))
    (distinct_end (reverse xs) x (distinct_reverse xs h.1) (all_reverse (λ z. z ≢ x) xs h.0))

greater_differs : (a x : ℕ) → a + 1 ≤ x → x ≢ a
greater_differs a x l e = absurd (let k : a + 1 ≤ a = subst (λ z. a + 1 ≤ z) e l in omega (arith, k))

pub distinct_range : (a n : ℕ) → Distinct (range_with_len a n)
distinct_range a zero = tt
distinct_range a (suc n) = (all_range (λ y. y ≢ a) (a + 1) n (λ x l g. greater_differs a x l), distinct_range (a + 1) n)

distinct_pick : (x y : ℕ) (ys zs : List ℕ) (b : Bool) → y ≢ x → Apart x ys → Apart y ys → Distinct ys → Apart y zs → Distinct zs
    → Distinct (cond b (y ∷ zs) (x ∷ y ∷ ys))
distinct_pick x y ys zs true d ax ay h az g = (az, g)
distinct_pick x y ys zs false d ax ay h az g = ((d, ax), (ay, h))

distinct_inserted : (lt : ℕ → ℕ → Bool) (x : ℕ) (ys : List ℕ) → Apart x ys → Distinct ys → Distinct (inserted lt x ys)
distinct_inserted lt x [] a h = (tt, tt)
distinct_inserted lt x (y ∷ ys) a h = distinct_pick x y ys (inserted lt x ys) (lt y x) a.0 a.1 h.0 h.1
    (all_inserted (λ z. z ≢ y) lt x ys (turned_round y x a.0) h.0) (distinct_inserted lt x ys a.1 h.1)

distinct_sorted_by : (lt : ℕ → ℕ → Bool) (xs : List ℕ) → Distinct xs → Distinct (sorted_by lt xs)
unfolding sorted_by
distinct_sorted_by lt [] h = tt
distinct_sorted_by lt (x ∷ xs) h = distinct_inserted lt x (sorted_by lt xs) (all_sorted_by (λ z. z ≢ x) lt xs h.0) (distinct_sorted_by lt xs h.1)

pub distinct_sorted : (key : ℕ → List ℕ) (xs : List ℕ) → Distinct xs → Distinct (sorted key xs)
distinct_sorted key xs h = distinct_sorted_by _ xs h
