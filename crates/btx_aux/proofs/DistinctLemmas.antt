-- Lists of which no two elements are equal, seen through a function.
use Rattle.std.proofs.Common.{◌≡◌, Bool, false, List, [], ◌∷◌, map}
use Rattle.std.specs.List.{AllByRecursion, IsDistinct}

all-map : {A B : Type 0} (P : B → Type 0) (f : A → B) (xs : List A) → AllByRecursion (λ (x : A). P (f x)) xs → AllByRecursion P (map f xs)
all-map P f [] all = tt
all-map P f (x ∷ xs) all = (all.0, all-map P f xs all.1)

all-unmap : {A B : Type 0} (P : B → Type 0) (f : A → B) (xs : List A) → AllByRecursion P (map f xs) → AllByRecursion (λ (x : A). P (f x)) xs
all-unmap P f [] all = tt
all-unmap P f (x ∷ xs) all = (all.0, all-unmap P f xs all.1)

pub distinct-map : {A B : Type 0} (same : B → B → Bool) (f : A → B) (xs : List A) → IsDistinct (λ (x y : A). same (f x) (f y)) xs → IsDistinct same (map f xs)
unfolding IsDistinct
distinct-map same f [] distinct = tt
distinct-map same f (x ∷ xs) distinct = (all-map (λ (y : _). same (f x) y ≡ false) f xs distinct.0, distinct-map same f xs distinct.1)

pub distinct-unmap : {A B : Type 0} (same : B → B → Bool) (f : A → B) (xs : List A) → IsDistinct same (map f xs) → IsDistinct (λ (x y : A). same (f x) (f y)) xs
unfolding IsDistinct
distinct-unmap same f [] distinct = tt
distinct-unmap same f (x ∷ xs) distinct = (all-unmap (λ (y : _). same (f x) y ≡ false) f xs distinct.0, distinct-unmap same f xs distinct.1)
