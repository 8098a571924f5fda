-- Marks of names. A table that has a name has its mark, so what has no mark that is there needn't be looked up.
use Rattle.std.specs.Prelude.{ℕ, ◌+◌, ◌-◌, ◌*◌, ◌/◌, ◌%◌, Bool, false, true, List, [], ◌∷◌, length, slice_index_or, slice_set, IsTrue}

-- the mark of a name: from its length and four of its bytes
unfoldable pub mark : List ℕ → ℕ
mark name =
    let n = length name in
    let byte : ℕ → ℕ = λ place. slice_index_or name place 0 in
    (byte (n - 1) + 37 * byte (n - 2) + 331 * byte (n / 2) + 67 * byte (n / 4) + 53 * (n % 64)) % 2048

-- whether the mark of a name is among these
unfoldable pub is_marked : List Bool → List ℕ → Bool
is_marked marks name = slice_index_or marks (mark name) false

-- these marks with that of a name
unfoldable pub marked : List Bool → List ℕ → List Bool
marked marks name = slice_set marks (mark name) true

-- the marks of all these names are there
abbrev pub AreMarked : List Bool → List (List ℕ) → Type 0
AreMarked marks [] = Unit {0}
AreMarked marks (name ∷ names) = IsTrue (is_marked marks name) × AreMarked marks names
