-- The items of a style: messages, and the commands that take effect.
use Rattle.std.specs.Prelude.{ℕ}
use Rattle.btx_bst.specs.declared.callee.Callee.{Callee}
use Rattle.btx_bst.specs.language.Complaints.{Complaint}

-- an item of a style: the message of a fault, or a command that takes effect, with the function that it defines or executes. What ENTRY, INTEGERS,
-- STRINGS and MACRO declare is kept in the style's names and macros, not in the item
pub data Item : Type 0 where
  -- what is wrong, and the number of the line where it is met
  Message : (complaint : Complaint) (line : ℕ) → Item
  Entry : Item
  -- a function, by its number
  Function : (number : ℕ) → Item
  Read : Item
  Execute : (callee : Callee) → Item
  Iterate : (callee : Callee) → Item
  Reverse : (callee : Callee) → Item
  Sort : Item
  Integers : Item
  Strings : Item
  Macro : Item
