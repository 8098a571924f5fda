-- Names of types, as proofs write them.
use Rattle.std.specs.Prelude.{List}
use Rattle.btx_bst.specs.declared.token.Token.{Token}

-- the body of a function: its tokens, in the order in which they are executed
abbrev pub FunctionBody : Type 0
FunctionBody = List Token
