-- A prefix with its braces closed, as the code's clauses have it.
use Rattle.std.specs.Prelude.{ℕ, List, ◌++◌, replicate}
use Rattle.btx_text.specs.language.Elements.{depth_of}
use Rattle.btx_text.specs.laws.Bytes.{close_brace}

-- a text followed by a `}` for each brace that it leaves open
abbrev pub with_braces_closed : List ℕ → List ℕ
with_braces_closed text = text ++ replicate (depth_of text) close_brace
