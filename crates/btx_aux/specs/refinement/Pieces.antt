-- Pieces as the program has them.
use Rattle.std.specs.Prelude.{ℕ, Bool, List, [], Option, None, Some, Result, Ok, Err}
use Rattle.std.specs.Borrow.{Bor}
use Rattle.btx_aux.specs.declared.command.Slip.{Slip}
use Rattle.btx_aux.specs.language.Grammar.{Piece, Taken, Cut, pieces_of}

-- a piece that was read
abbrev pub piece_from : Result (Bor (List ℕ)) Slip → Piece
piece_from (Ok text) = Taken text.now
piece_from (Err slip) = Cut slip

-- the pieces after a comma, or none
abbrev pub pieces_behind : Bool → Option (Bor (List ℕ)) → List Piece
pieces_behind is_list None = []
pieces_behind is_list (Some text) = pieces_of is_list text.now
