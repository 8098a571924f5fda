-- Where a piece of a string lies.
use Rattle.std.specs.Prelude.{ℕ, List, ◌≡◌, ◌+◌, ◌≤◌, length, take, drop}
use Rattle.btx_strings.specs.declared.substrings.Piece.{Piece}

-- of each string of `size` bytes this piece lies there
pub record IsPiece (size : ℕ) (piece : Piece) (of : List ℕ → List ℕ) : Type 0 where
  pub within : piece.from + piece.count ≤ size
  pub bytes : (text : List ℕ) → length text ≡ size → of text ≡ take piece.count (drop piece.from text)
