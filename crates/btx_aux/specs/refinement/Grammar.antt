-- Names of parts of the grammar.
use Rattle.std.specs.Prelude.{ℕ, false, List, ◌+◌, [], take, drop, Option}
use Rattle.std.specs.Option.{option_map_or}
use Rattle.btx_aux.specs.language.Grammar.{Piece, pieces_of, first_piece, aux_command_named, EventKind, words_of_command}

-- what a line says, given the place of its first `{`; a line without `{` says nothing
abbrev pub words_at : Option ℕ → List ℕ → List EventKind
words_at brace line = option_map_or (λ (place : ℕ). words_of_command (aux_command_named (take place line)) (drop (place + 1) line)) brace []

-- the one piece of an argument that is no list
abbrev pub piece_of : List ℕ → Piece
piece_of argument = first_piece (pieces_of false argument)
