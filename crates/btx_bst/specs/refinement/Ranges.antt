-- Bodies as ranges of one list of tokens.
use Rattle.std.specs.Prelude.{List, slice_range}
use Rattle.btx_bst.specs.declared.bodies.Range.{Range}

-- the body in a range
abbrev pub tokens_in : {T : Type 0} → List T → Range → List T
tokens_in tokens range = slice_range tokens range.from range.to
