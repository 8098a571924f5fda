-- The order of SORT as the code's clauses have it.
use Rattle.std.specs.Prelude.{ℕ, List, Bool}
use Rattle.btx_step.specs.language.Stores.{Store}
use Rattle.btx_step.specs.language.Variables.{string_of}
use Rattle.btx_step.specs.laws.Orders.{precedes}

-- the key by which SORT places an entry: the value of the entry's string variable of this number
abbrev pub sort_key : Store → ℕ → ℕ → List ℕ
sort_key store variable entry = string_of store.entries entry variable

-- an element comes before another one: its key does
abbrev pub by_key : {X : Type 0} → (X → List ℕ) → X → X → Bool
by_key key x y = precedes (key x) (key y)
