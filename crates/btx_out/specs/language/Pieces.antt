-- Prefixes of what is written, for a sink that shows the bytes it received; of one that doesn't, nothing is said.
use Rattle.std.specs.Prelude.{◌≡◌, ℕ, List, ◌++◌, Option}
use Rattle.std.specs.Io.KnownBytes.{Appends}

-- the sink, if it shows its bytes, received a prefix of `bytes`, perhaps all of them
pub record AppendsPrefix (old new : Option (List ℕ)) (bytes : List ℕ) : Type 0 where
  pub front : List ℕ
  pub rest : List ℕ
  pub whole : bytes ≡ front ++ rest
  pub received : Appends old new front

-- the sink, if it shows its bytes, received `bytes` and perhaps more
pub record AppendsAtLeast (old new : Option (List ℕ)) (bytes : List ℕ) : Type 0 where
  pub more : List ℕ
  pub received : Appends old new (bytes ++ more)
