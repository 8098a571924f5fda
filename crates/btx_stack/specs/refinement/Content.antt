-- What a slot of the literal stack holds.
use Rattle.std.specs.Prelude.{ℕ, ℤ, List}
use Rattle.btx_bst.specs.declared.callee.Callee.{Callee}

-- a literal, but of a long string only its index among the long strings
pub data Content : Type 0 where
  Integer : ℤ → Content
  Text : List ℕ → Content
  Function : Callee → Content
  Missing : Content
  Large : ℕ → Content
