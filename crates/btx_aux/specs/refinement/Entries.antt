-- The entries of a table as pairs of name and bytes.
use Rattle.std.specs.Prelude.{ℕ, List, map}
use Rattle.std.specs.declared.vec.Vec.{Vec}
use Rattle.std.specs.declared.alloc.Global.{Global}

-- the type of an owned name and of owned bytes
abbrev pub Bytes : Type 0
Bytes = Vec ℕ Global

-- the entries as what they hold
abbrev pub pairs_in : List (Bytes × Bytes) → List (List ℕ × List ℕ)
pairs_in entries = map (λ (entry : Bytes × Bytes). (entry.0.items, entry.1.items)) entries

-- owned names or keys as what they hold
abbrev pub texts_of : List Bytes → List (List ℕ)
texts_of names = map (λ (name : Bytes). name.items) names
