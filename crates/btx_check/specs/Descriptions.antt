-- Descriptions of literals, and the literals that they stand for.
use Rattle.std.specs.Prelude.{◌≡◌, ◌||◌, ◌&&◌, ℕ, ℤ, pos, ◌≤ℤ◌, ◌+ℤ◌, List, [], ◌∷◌, Option, None, Some, Bool, true, false, if◌then◌else◌}
use Rattle.std.specs.List.{list_all}
use Rattle.btx_text.specs.language.Class.{is_white}
use Rattle.btx_stack.specs.declared.literal.Literal.{Literal}
use Rattle.btx_stack.specs.declared.literal.Literal.TheVariants.{Integer, Text, Function, Missing}
use Rattle.btx_check.specs.declared.description.Mask.{Mask}
use Rattle.btx_check.specs.declared.description.Upper.{Upper}
use Rattle.btx_check.specs.declared.description.Upper.TheVariants as upper
use Rattle.btx_check.specs.declared.description.Value.{Value}
use Rattle.btx_check.specs.declared.description.Value.TheVariants as value

-- the classes of strings that are distinguished: the empty one, those of whitespace alone, and all others
pub data Class : Type 0 where
  Empty : Class
  White : Class
  Full : Class

-- the class of a string
abbrev pub class_of : List ℕ → Class
class_of [] = Empty
class_of (x ∷ xs) = if list_all is_white (x ∷ xs) then White else Full

-- the mask allows strings of a class
abbrev pub allows : Mask → Class → Bool
allows m Empty = m.empty
allows m White = m.white
allows m Full = m.full

-- an integer is at least its lower bound, if there is one
abbrev pub Above : Option ℤ → ℤ → Type 0
Above None n = Unit {0}
Above (Some low) n = low ≤ℤ n

-- an integer is at most its upper bound, if there is one. What counts steps is at most 2,000,000,000 less the steps that are left: so it may grow by one
-- in each step, and always fits 32 bits
abbrev pub Below : ℕ → Upper → ℤ → Type 0
Below left (upper.Number None) n = Unit {0}
Below left (upper.Number (Some high)) n = n ≤ℤ high
Below left upper.Counter n = (n +ℤ pos left) ≤ℤ pos 2000000000

-- a literal is one of those that a description stands for, with this many steps left
abbrev pub Is : ℕ → Value → Literal → Type 0
Is left value.Any x = Unit {0}
Is left (value.Integer low high) (Integer n) = Above low n × Below left high n
Is left (value.Text m) (Text t) = allows m (class_of t) ≡ true
Is left (value.Text m) Missing = m.missing ≡ true
Is left (value.Function f) (Function g) = f ≡ g
Is left _ _ = ⊥

-- no upper bound
abbrev pub open_end : Upper
open_end = upper.Number None

-- exactly this integer
abbrev pub exactly : ℤ → Value
exactly n = value.Integer (Some n) (upper.Number (Some n))

-- the masks of what `empty$` finds empty, and of what it doesn't
abbrev pub blank : Mask → Mask
blank m = record m { full = false }

-- see `blank`
abbrev pub filled : Mask → Mask
filled m = record { missing = false; empty = false; white = false; full = m.full }

-- a field of which nothing is known
abbrev pub any_field : Mask
any_field = record { missing = true; empty = true; white = true; full = true }

-- a string of which nothing is known
abbrev pub any_text : Mask
any_text = record { missing = false; empty = true; white = true; full = true }

-- the mask of what a variable keeps of a string: its first bytes, at least one
abbrev pub cut : Mask → Mask
cut m = record { missing = false; empty = m.empty; white = m.white || m.full; full = m.full }

-- the mask of its missing field alone
abbrev pub gone : Mask → Mask
gone m = record { missing = m.missing; empty = false; white = false; full = false }

-- the mask without a missing field
abbrev pub present : Mask → Mask
present m = record m { missing = false }

-- the mask of its empty string alone
abbrev pub nothing : Mask → Mask
nothing m = record { missing = false; empty = m.empty; white = false; full = false }

-- the mask without a missing field and the empty string
abbrev pub something : Mask → Mask
something m = record { missing = false; empty = false; white = m.white; full = m.full }

-- the mask of a string and another one after it
abbrev pub followed : Mask → Mask → Mask
followed m n = record {
  missing = false;
  empty = m.empty && n.empty;
  white = (m.empty || m.white) && (n.empty || n.white) && (m.white || n.white);
  full = m.full || n.full;
}
