-- The variables of all entries, those of an entry after those of the one before it.
use Rattle.std.proofs.Common.{◌≡◌, ℕ, zero, suc, ◌+◌, ◌-◌, ◌*◌, ◌<◌, ◌≤◌, ◌^◌, ◌⊎◌, inl, inr, List, [], ◌∷◌, length, take, drop, replicate, get_or, slice_get}
use Rattle.std.proofs.Common.{slice_set, unwrap_or, ℤ, pos, FitsSigned, w32, to_z, of_z, refl, sym, ap, ◌∙◌, arith, suc-mul, zero-mul}
use Rattle.std.proofs.lemmas.List.{drop-drop, drop-replicate, drop-set-add, drop-set-lt, get_or-drop, get_or-take, length-take, set-set, set_past}
use Rattle.std.proofs.lemmas.List.{take-replicate, take-set-le}
use Rattle.std.proofs.Math.Seq.{take-set-lt}
use Rattle.std.proofs.lemmas.Option.{unwrap_or-slice_get, slice_get-get_or, slice_get_past}
use Rattle.std.proofs.lemmas.Int.{to_z-of_z}
use Rattle.btx_step.proofs.Common.{EntryVariables}
use Rattle.btx_step.specs.language.Variables.{values_of, integer_of, string_of}
use Rattle.btx_step.specs.refinement.Variables.{rows, integer_set, string_set}

-- ---- places

-- a variable of an entry stands before the end
within : (n k e j : ℕ) → e < n → j < k → e * k + j < n * k
within zero k e j lt l = absurd (omega arith)
within (suc n) k zero j lt l = omega (arith, suc-mul n k)
within (suc n) k (suc e) j lt l = let here = within n k e j (omega arith) l in omega (arith, here, suc-mul n k, suc-mul e k)

pub place_fits : (n k e j : ℕ) → e < n → j < k → n * k < 2 ^ 64 → e * k + j < 2 ^ 64
place_fits n k e j lt l fits = let here = within n k e j lt l in omega (arith, here, fits)

-- ---- the part of an entry

module _ {X : Type 0} where
  -- the part of the first entry, and that of another one
  first-part : (k : ℕ) (xs : List X) → take k xs ≡ take k (drop (zero * k) xs)
  first-part k xs = ap (λ n. take k (drop n xs)) (sym (zero-mul k))

  next-part : (k e : ℕ) (xs : List X) → take k (drop (e * k) (drop k xs)) ≡ take k (drop (suc e * k) xs)
  next-part k e xs = let on : k + e * k ≡ suc e * k = omega (arith, suc-mul e k) in ap (take k) (drop-drop (e * k) k xs ∙ ap (λ n. drop n xs) on)

  -- what is read in an entry's part
  read-part : (k e j : ℕ) (xs : List X) (d : X) → j < k → unwrap_or (slice_get (take k (drop (e * k) xs)) j) d ≡ get_or xs (e * k + j) d
  read-part k e j xs d lt = unwrap_or-slice_get (take k (drop (e * k) xs)) j d ∙ get_or-take k (drop (e * k) xs) j d lt ∙ get_or-drop (e * k) xs j d

  -- what an element of a vector is, whatever stands for one that isn't there
  value-read : (xs : List X) (q p : ℕ) (v d : X) → q < length xs → p ≡ q → v ≡ get_or xs p v → get_or xs q d ≡ v
  value-read xs q p v d lt at read = sym (unwrap_or-slice_get xs q d) ∙ ap (λ o. unwrap_or o d) (slice_get-get_or xs q v lt)
      ∙ sym (read ∙ ap (λ r. get_or xs r v) at)

  past-part : (k j : ℕ) (xs : List X) (d : X) → k ≤ j → unwrap_or (slice_get (take k xs) j) d ≡ d
  past-part k j xs d le = let long = length-take k xs in ap (λ o. unwrap_or o d) (slice_get_past (take k xs) j (omega (arith, long, le)))

-- ---- what is read

-- no values
abbrev none : EntryVariables
none = record { integers = []; strings = [] }

-- the values of an entry are those of its parts
row-at : (n i s : ℕ) (xs : List ℤ) (ts : List (List ℕ)) (e : ℕ) → e < n → values_of (rows n i s xs ts) e
    ≡ record { integers = take i (drop (e * i) xs); strings = take s (drop (e * s) ts) }
row-at zero i s xs ts e lt = absurd (omega arith)
row-at (suc n) i s xs ts zero lt = λ k. record { integers = first-part i xs k; strings = first-part s ts k }
row-at (suc n) i s xs ts (suc e) lt = row-at n i s (drop i xs) (drop s ts) e (omega arith)
    ∙ (λ k. record { integers = next-part i e xs k; strings = next-part s e ts k })

row-past : (n i s : ℕ) (xs : List ℤ) (ts : List (List ℕ)) (e : ℕ) → n ≤ e → values_of (rows n i s xs ts) e ≡ none
row-past zero i s xs ts e le = refl
row-past (suc n) i s xs ts zero le = absurd (omega arith)
row-past (suc n) i s xs ts (suc e) le = row-past n i s (drop i xs) (drop s ts) e (omega arith)

pub integer_there : (n i s : ℕ) (xs : List ℤ) (ts : List (List ℕ)) (e j p : ℕ) (v : ℤ) → length xs ≡ n * i → e < n → j < i → p ≡ e * i + j → v ≡ get_or xs p v
    → integer_of (rows n i s xs ts) e j ≡ v
integer_there n i s xs ts e j p v long lt l at read =
    let here = within n i e j lt l in
    ap (λ (r : EntryVariables). unwrap_or (slice_get r.integers j) (pos 0)) (row-at n i s xs ts e lt) ∙ read-part i e j xs (pos 0) l
    ∙ value-read xs (e * i + j) p v (pos 0) (omega (arith, here, long)) at read

pub string_there : (n i s : ℕ) (xs : List ℤ) (ts : List (List ℕ)) (e j p : ℕ) (v : List ℕ) → length ts ≡ n * s → e < n → j < s → p ≡ e * s + j
    → v ≡ get_or ts p v → string_of (rows n i s xs ts) e j ≡ v
string_there n i s xs ts e j p v long lt l at read =
    let here = within n s e j lt l in
    ap (λ (r : EntryVariables). unwrap_or (slice_get r.strings j) []) (row-at n i s xs ts e lt) ∙ read-part s e j ts [] l
    ∙ value-read ts (e * s + j) p v [] (omega (arith, here, long)) at read

-- an entry that isn't there, or a variable that isn't, has none
integer-past : (n i s : ℕ) (xs : List ℤ) (ts : List (List ℕ)) (e j : ℕ) → i ≤ j → integer_of (rows n i s xs ts) e j ≡ pos 0
integer-past zero i s xs ts e j le = refl
integer-past (suc n) i s xs ts zero j le = past-part i j xs (pos 0) le
integer-past (suc n) i s xs ts (suc e) j le = integer-past n i s (drop i xs) (drop s ts) e j le

string-past : (n i s : ℕ) (xs : List ℤ) (ts : List (List ℕ)) (e j : ℕ) → s ≤ j → string_of (rows n i s xs ts) e j ≡ []
string-past zero i s xs ts e j le = refl
string-past (suc n) i s xs ts zero j le = past-part s j ts [] le
string-past (suc n) i s xs ts (suc e) j le = string-past n i s (drop i xs) (drop s ts) e j le

pub integer_nowhere : (n i s : ℕ) (xs : List ℤ) (ts : List (List ℕ)) (e j : ℕ) → (n ≤ e) ⊎ (i ≤ j) → integer_of (rows n i s xs ts) e j ≡ pos 0
integer_nowhere n i s xs ts e j (inl le) = ap (λ (r : EntryVariables). unwrap_or (slice_get r.integers j) (pos 0)) (row-past n i s xs ts e le)
integer_nowhere n i s xs ts e j (inr le) = integer-past n i s xs ts e j le

pub string_nowhere : (n i s : ℕ) (xs : List ℤ) (ts : List (List ℕ)) (e j : ℕ) → (n ≤ e) ⊎ (s ≤ j) → string_of (rows n i s xs ts) e j ≡ []
string_nowhere n i s xs ts e j (inl le) = ap (λ (r : EntryVariables). unwrap_or (slice_get r.strings j) []) (row-past n i s xs ts e le)
string_nowhere n i s xs ts e j (inr le) = string-past n i s xs ts e j le

-- ---- what is written

module _ {X : Type 0} where
  -- an element after the first part is one of the rest
  past-first : (k e j : ℕ) (xs : List X) (v : X) → drop k (slice_set xs (suc e * k + j) v) ≡ slice_set (drop k xs) (e * k + j) v
  past-first k e j xs v = let at : suc e * k + j ≡ k + (e * k + j) = omega (arith, suc-mul e k) in ap (λ n. drop k (slice_set xs n v)) at
      ∙ drop-set-add k xs (e * k + j) v

  first-stays : (k e j : ℕ) (xs : List X) (v : X) → take k (slice_set xs (suc e * k + j) v) ≡ take k xs
  first-stays k e j xs v = take-set-le k xs (suc e * k + j) v (omega (arith, suc-mul e k))

  in-first : (k j : ℕ) (xs : List X) (v : X) → slice_set xs (zero * k + j) v ≡ slice_set xs j v
  in-first k j xs v = let at : zero * k + j ≡ j = omega (arith, zero-mul k) in ap (λ n. slice_set xs n v) at

  past-set : (k j : ℕ) (xs : List X) (v : X) → k ≤ j → slice_set (take k xs) j v ≡ take k xs
  past-set k j xs v le = let long = length-take k xs in set_past (take k xs) j v (omega (arith, long, le))

integer-put : (n i s : ℕ) (xs : List ℤ) (ts : List (List ℕ)) (e j : ℕ) (v : ℤ) → e < n → j < i → let all = rows n i s xs ts in
    rows n i s (slice_set xs (e * i + j) v) ts ≡ slice_set all e (integer_set j v (values_of all e))
integer-put zero i s xs ts e j v lt l = absurd (omega arith)
integer-put (suc n) i s xs ts zero j v lt l =
    ap (λ (ys : List ℤ). rows (suc n) i s ys ts) (in-first i j xs v)
    ∙ (λ k. record { integers = take-set-lt i xs j v l k; strings = take s ts } ∷ rows n i s (drop-set-lt i xs j v l k) (drop s ts))
integer-put (suc n) i s xs ts (suc e) j v lt l =
    (λ k. record { integers = first-stays i e j xs v k; strings = take s ts } ∷ rows n i s (past-first i e j xs v k) (drop s ts))
    ∙ ap (λ (others : List EntryVariables). record { integers = take i xs; strings = take s ts } ∷ others)
    (integer-put n i s (drop i xs) (drop s ts) e j v (omega arith) l)

string-put : (n i s : ℕ) (xs : List ℤ) (ts : List (List ℕ)) (e j : ℕ) (v : List ℕ) → e < n → j < s → let all = rows n i s xs ts in
    rows n i s xs (slice_set ts (e * s + j) v) ≡ slice_set all e (string_set j v (values_of all e))
string-put zero i s xs ts e j v lt l = absurd (omega arith)
string-put (suc n) i s xs ts zero j v lt l =
    ap (λ (ys : List (List ℕ)). rows (suc n) i s xs ys) (in-first s j ts v)
    ∙ (λ k. record { integers = take i xs; strings = take-set-lt s ts j v l k } ∷ rows n i s (drop i xs) (drop-set-lt s ts j v l k))
string-put (suc n) i s xs ts (suc e) j v lt l =
    (λ k. record { integers = take i xs; strings = first-stays s e j ts v k } ∷ rows n i s (drop i xs) (past-first s e j ts v k))
    ∙ ap (λ (others : List EntryVariables). record { integers = take i xs; strings = take s ts } ∷ others)
    (string-put n i s (drop i xs) (drop s ts) e j v (omega arith) l)

-- (an integer is written as its bits)
pub integer_put : (n i s : ℕ) (xs : List ℤ) (ts : List (List ℕ)) (e j p : ℕ) (v : ℤ) → FitsSigned w32 v → e < n → j < i → p ≡ e * i + j
    → let all = rows n i s xs ts in rows n i s (slice_set xs p (to_z w32 (of_z w32 v))) ts ≡ slice_set all e (integer_set j v (values_of all e))
integer_put n i s xs ts e j p v fits lt l at = (λ k. rows n i s (slice_set xs (at k) (to_z-of_z w32 v fits k)) ts) ∙ integer-put n i s xs ts e j v lt l

pub string_put : (n i s : ℕ) (xs : List ℤ) (ts : List (List ℕ)) (e j p : ℕ) (v : List ℕ) → e < n → j < s → p ≡ e * s + j → let all = rows n i s xs ts in
    rows n i s xs (slice_set ts p v) ≡ slice_set all e (string_set j v (values_of all e))
string_put n i s xs ts e j p v lt l at = ap (λ q. rows n i s xs (slice_set ts q v)) at ∙ string-put n i s xs ts e j v lt l

-- the same, where another string was put there first
pub string_put_again : (n i s : ℕ) (xs : List ℤ) (ts : List (List ℕ)) (e j p : ℕ) (u v : List ℕ) → e < n → j < s → p ≡ e * s + j → let all = rows n i s xs ts in
    rows n i s xs (slice_set (slice_set ts p u) p v) ≡ slice_set all e (string_set j v (values_of all e))
string_put_again n i s xs ts e j p u v lt l at = ap (λ (strings : List (List ℕ)). rows n i s xs strings) (set-set ts p u v)
    ∙ string_put n i s xs ts e j p v lt l at

-- nothing is written where there is no such entry, or no such variable
length-rows : (n i s : ℕ) (xs : List ℤ) (ts : List (List ℕ)) → length (rows n i s xs ts) ≡ n
length-rows zero i s xs ts = refl
length-rows (suc n) i s xs ts = ap suc (length-rows n i s (drop i xs) (drop s ts))

outside : (n i s : ℕ) (xs : List ℤ) (ts : List (List ℕ)) (e : ℕ) (r : EntryVariables) → n ≤ e → rows n i s xs ts ≡ slice_set (rows n i s xs ts) e r
outside n i s xs ts e r le = let long = length-rows n i s xs ts in sym (set_past (rows n i s xs ts) e r (omega (arith, long, le)))

integer-kept : (n i s : ℕ) (xs : List ℤ) (ts : List (List ℕ)) (e j : ℕ) (v : ℤ) → i ≤ j → let all = rows n i s xs ts in
    all ≡ slice_set all e (integer_set j v (values_of all e))
integer-kept zero i s xs ts e j v le = refl
integer-kept (suc n) i s xs ts zero j v le = λ k. record { integers = sym (past-set i j xs v le) k; strings = take s ts } ∷ rows n i s (drop i xs) (drop s ts)
integer-kept (suc n) i s xs ts (suc e) j v le = ap (λ (others : List EntryVariables). record { integers = take i xs; strings = take s ts } ∷ others)
    (integer-kept n i s (drop i xs) (drop s ts) e j v le)

string-kept : (n i s : ℕ) (xs : List ℤ) (ts : List (List ℕ)) (e j : ℕ) (v : List ℕ) → s ≤ j → let all = rows n i s xs ts in
    all ≡ slice_set all e (string_set j v (values_of all e))
string-kept zero i s xs ts e j v le = refl
string-kept (suc n) i s xs ts zero j v le = λ k. record { integers = take i xs; strings = sym (past-set s j ts v le) k } ∷ rows n i s (drop i xs) (drop s ts)
string-kept (suc n) i s xs ts (suc e) j v le = ap (λ (others : List EntryVariables). record { integers = take i xs; strings = take s ts } ∷ others)
    (string-kept n i s (drop i xs) (drop s ts) e j v le)

pub integer_kept : (n i s : ℕ) (xs : List ℤ) (ts : List (List ℕ)) (e j : ℕ) (v : ℤ) → (n ≤ e) ⊎ (i ≤ j) → let all = rows n i s xs ts in
    all ≡ slice_set all e (integer_set j v (values_of all e))
integer_kept n i s xs ts e j v (inl le) = outside n i s xs ts e (integer_set j v (values_of (rows n i s xs ts) e)) le
integer_kept n i s xs ts e j v (inr le) = integer-kept n i s xs ts e j v le

pub string_kept : (n i s : ℕ) (xs : List ℤ) (ts : List (List ℕ)) (e j : ℕ) (v : List ℕ) → (n ≤ e) ⊎ (s ≤ j) → let all = rows n i s xs ts in
    all ≡ slice_set all e (string_set j v (values_of all e))
string_kept n i s xs ts e j v (inl le) = outside n i s xs ts e (string_set j v (values_of (rows n i s xs ts) e)) le
string_kept n i s xs ts e j v (inr le) = string-kept n i s xs ts e j v le

-- ---- the first values

module _ {X : Type 0} where
  first-taken : (n k : ℕ) (a : X) → take k (replicate (suc n * k) a) ≡ replicate k a
  first-taken n k a = take-replicate k (suc n * k) a (omega (arith, suc-mul n k))

  first-dropped : (n k : ℕ) (a : X) → drop k (replicate (suc n * k) a) ≡ replicate (n * k) a
  first-dropped n k a = let left : suc n * k - k ≡ n * k = omega (arith, suc-mul n k) in drop-replicate k (suc n * k) a ∙ ap (λ m. replicate m a) left

pub first_rows : (n i s : ℕ) → rows n i s (replicate (n * i) (pos 0)) (replicate (n * s) [])
    ≡ replicate n (record { integers = replicate i (pos 0); strings = replicate s [] })
first_rows zero i s = refl
first_rows (suc n) i s =
    (λ k. record { integers = first-taken n i (pos 0) k; strings = first-taken n s [] k } ∷ rows n i s (first-dropped n i (pos 0) k) (first-dropped n s [] k))
    ∙ ap (λ (others : List EntryVariables). record { integers = replicate i (pos 0); strings = replicate s [] } ∷ others) (first_rows n i s)
