-- An element of a list with one more.
use Rattle.std.proofs.Common.{◌≡◌, ℕ, zero, suc, ◌⊎◌, inl, inr, List, [], ◌∷◌, ◌++◌, length, refl, arith, Some}
use Rattle.std.specs.Prelude.{slice_get}
use Rattle.btx_bst.specs.language.Items.{Item}

pub push_cases : {A : Type 0} (xs : List A) (y : A) (k : ℕ) (m : A) → slice_get (xs ++ y ∷ []) k ≡ Some m → (slice_get xs k ≡ Some m)
    ⊎ ((k ≡ length xs) × (y ≡ m))
push_cases [] y zero m e = inr (refl, cc)
push_cases [] y (suc k) m e = absurd (cc)
push_cases (x ∷ xs) y zero m e = inl e
push_cases {A = A} (x ∷ xs) y (suc k) m e = at (push_cases xs y k m e) where
  at : (slice_get xs k ≡ Some m) ⊎ ((k ≡ length xs) × (y ≡ m)) → (slice_get xs k ≡ Some m) ⊎ ((suc k ≡ suc (length xs)) × (y ≡ m))
  at (inl h) = inl h
  at (inr h) = inr (omega (arith, h.0), h.1)

pub push_left : {A : Type 0} (xs : List A) (y : A) (k : ℕ) (m : A) → slice_get xs k ≡ Some m → slice_get (xs ++ y ∷ []) k ≡ Some m
push_left [] y k m e = absurd (cc)
push_left (x ∷ xs) y zero m e = e
push_left (x ∷ xs) y (suc k) m e = push_left xs y k m e

pub push_last : {A : Type 0} (xs : List A) (y : A) → slice_get (xs ++ y ∷ []) (length xs) ≡ Some y
push_last [] y = refl
push_last (x ∷ xs) y = push_last xs y

-- an item stands somewhere
abbrev pub There : Item → List Item → Type 0
There i is = (j : ℕ) × (slice_get is j ≡ Some i)

pub there_more : (i x : Item) (is : List Item) → There i is → There i (is ++ x ∷ [])
there_more i x is h = (h.0, push_left is x h.0 i h.1)

pub there_last : (x : Item) (is : List Item) → There x (is ++ x ∷ [])
there_last x is = (length is, push_last is x)

pub there_cases : (i x : Item) (is : List Item) → There i (is ++ x ∷ []) → There i is ⊎ (x ≡ i)
there_cases i x is h = at (push_cases is x h.0 i h.1) where
  at : (slice_get is h.0 ≡ Some i) ⊎ ((h.0 ≡ length is) × (x ≡ i)) → There i is ⊎ (x ≡ i)
  at (inl e) = inl (h.0, e)
  at (inr e) = inr e.1
