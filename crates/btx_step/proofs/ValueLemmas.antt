-- Lists that are written to.
use Rattle.std.proofs.Common.{◌≡◌, ℕ, zero, suc, ◌<◌, List, [], ◌∷◌, length, slice_get, slice_set, Some, refl, arith}

-- what was written is read
pub read_at : {X : Type 0} (xs : List X) (i : ℕ) (v : X) → i < length xs → slice_get (slice_set xs i v) i ≡ Some v
read_at [] i v within = absurd (omega arith)
read_at (x ∷ xs) zero v within = refl
read_at (x ∷ xs) (suc i) v within = read_at xs i v (omega arith)
