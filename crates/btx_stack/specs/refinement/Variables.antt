-- The value of a string variable.
use Rattle.std.specs.Prelude.{ℕ, List}
use Rattle.btx_stack.specs.declared.variable.Source.{Source}
use Rattle.btx_stack.specs.declared.variable.Source.TheVariants as source

-- by where its bytes are: in a file, in room of its own, or shared
abbrev pub variable_value : Source → List ℕ → List ℕ → List ℕ → List ℕ
variable_value source.Lent lent own large = lent
variable_value source.Own lent own large = own
variable_value source.Large lent own large = large
