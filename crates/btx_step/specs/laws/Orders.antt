-- What it is that a list of entries stands in the order of their keys (btxhak, section 5.2, at SORT). `sorted` gives the only such list.
use Rattle.std.specs.Prelude.{◌≡◌, ◌↔◌, ℕ, Bool, true, false, List, [], ◌∷◌, nat_lt, if◌then◌else◌}
use Rattle.std.specs.List.{filter}
use Rattle.std.specs.Str.{bytes_eq}
use Rattle.btx_step.specs.language.Sorting.{sorted}
use Rattle.std.specs.Ordering.{nat_cmp, is_lt}
use Rattle.std.specs.Cmp.Lexicographic.{slice_cmp}

-- one key comes before another: at the first byte that differs it has the smaller one, or it is a proper prefix of the other
abbrev pub comes_first : List ℕ → List ℕ → Bool
comes_first [] [] = false
comes_first [] (c ∷ cs) = true
comes_first (b ∷ bs) [] = false
comes_first (b ∷ bs) (c ∷ cs) = if nat_lt b c then true else if nat_lt c b then false else comes_first bs cs

-- none of these entries has a key that comes before that of x
abbrev pub NoneBefore : (ℕ → List ℕ) → ℕ → List ℕ → Type 0
NoneBefore key x [] = Unit {0}
NoneBefore key x (y ∷ ys) = (comes_first (key y) (key x) ≡ false) × NoneBefore key x ys

-- no entry has a key that comes before one that stands earlier
abbrev pub Ascends : (ℕ → List ℕ) → List ℕ → Type 0
Ascends key [] = Unit {0}
Ascends key (x ∷ xs) = NoneBefore key x xs × Ascends key xs

-- the entries of one key, as they stand in a list
abbrev pub entries_of_key : (ℕ → List ℕ) → List ℕ → List ℕ → List ℕ
entries_of_key key wanted xs = filter (λ x. bytes_eq (key x) wanted) xs

-- `ys` has the entries of `xs`, so that their keys ascend, and the entries of each key as they stood
pub record IsInOrder (key : ℕ → List ℕ) (xs : List ℕ) (ys : List ℕ) : Type 0 where
  pub ascends : Ascends key ys
  pub ties_kept : (wanted : List ℕ) → entries_of_key key wanted ys ≡ entries_of_key key wanted xs

-- ---- laws

-- the test by which `sorted` compares two keys
abbrev pub precedes : List ℕ → List ℕ → Bool
precedes key other = is_lt (slice_cmp nat_cmp key other)

-- this test is `comes_first`
abbrev pub ComparesBytes : Type 0
ComparesBytes = (key other : List ℕ) → precedes key other ≡ comes_first key other

-- a list has the entries of another in the order of their keys exactly if it is what `sorted` gives
abbrev pub SortedOnce : Type 0
SortedOnce = (key : ℕ → List ℕ) (xs ys : List ℕ) → IsInOrder key xs ys ↔ (ys ≡ sorted key xs)
