-- A direct body, as the code's clause has it.
use Rattle.std.specs.Prelude.{◌≡◌, ℕ, true}
use Rattle.btx_bst.specs.language.Direct.{is_direct_at}
use Rattle.btx_bst.specs.refinement.Bodies.{FunctionBody}

-- a body is direct: each of its tokens may stand where it stands
abbrev pub IsDirectBody : FunctionBody → Type 0
IsDirectBody body = (i : ℕ) → is_direct_at body i ≡ true
