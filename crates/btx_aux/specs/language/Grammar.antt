-- What a line of an `.aux` file says (the manuals leave it open; the rules are those of the original program). A line counts only if
-- its text up to its first `{` is exactly a command. What follows is the argument: for `\citation` and `\bibdata` a list of pieces cut
-- at commas, for the other two one piece.
use Rattle.std.specs.Prelude.{ℕ, ◌+◌, ◌==◌, ◌&&◌, Bool, true, false, List, [], ◌∷◌, map, take, drop, position, Option, None, Some, if◌then◌else◌, codes}
use Rattle.std.specs.Str.{bytes_eq, byte}
use Rattle.std.specs.Option.{option_map_or}
use Rattle.btx_text.specs.language.Class.{is_white}
use Rattle.btx_aux.specs.declared.end.End.{End}
use Rattle.btx_aux.specs.declared.end.End.TheVariants as end
use Rattle.btx_aux.specs.declared.command.Command.{Command}
use Rattle.btx_aux.specs.declared.command.Command.TheVariants.{Citation, Bibdata, Bibstyle, Input}
use Rattle.btx_aux.specs.declared.command.Slip.{Slip}
use Rattle.btx_aux.specs.declared.command.Slip.TheVariants.{WhiteSpace, Unclosed, StuffAfter}

-- a piece of an argument: one that is taken, or the place at which the rest of the line is given up
pub data Piece : Type 0 where
  Taken : (text : List ℕ) → Piece
  Cut : (slip : Slip) → Piece

-- byte `b` added at the front of the first piece, if that piece was taken; else the pieces as they are
abbrev pub in_first_piece : ℕ → List Piece → List Piece
in_first_piece b [] = []
in_first_piece b (Taken text ∷ pieces) = Taken (b ∷ text) ∷ pieces
in_first_piece b (Cut slip ∷ pieces) = Cut slip ∷ pieces

-- the piece before a `}`: it is taken if nothing follows the `}` on its line, and else an error
abbrev pub closed_before : List ℕ → List Piece
closed_before [] = Taken [] ∷ []
closed_before (b ∷ bs) = Cut StuffAfter ∷ []

-- the pieces of an argument, several where `is_list` is true. A piece ends at the first `}`, at whitespace or at the end of the line, and in a
-- list at a comma too. Whitespace, the end of the line and anything after the `}` are errors
unfoldable pub pieces_of : Bool → List ℕ → List Piece
pieces_of is_list [] = Cut Unclosed ∷ []
pieces_of is_list (b ∷ bs) =
    if is_white b then Cut WhiteSpace ∷ []
    else (if b == byte "}" then closed_before bs
    else (if is_list && b == byte "," then Taken [] ∷ pieces_of is_list bs
    else in_first_piece b (pieces_of is_list bs)))

-- the first piece of an argument. `pieces_of` always gives one, so the case without any is never met
abbrev pub first_piece : List Piece → Piece
first_piece [] = Cut Unclosed
first_piece (piece ∷ pieces) = piece

-- which of the four commands a name is, if it is one
unfoldable pub aux_command_named : List ℕ → Option Command
aux_command_named name =
    if bytes_eq name (codes "\\citation") then Some Citation
    else (if bytes_eq name (codes "\\bibdata") then Some Bibdata
    else (if bytes_eq name (codes "\\bibstyle") then Some Bibstyle
    else (if bytes_eq name (codes "\\@input") then Some Input
    else None)))

-- one thing that happens while `.aux` files are read, without its place. A line says: a key or a `*` of a `\citation` (`Cites`), the databases of a
-- `\bibdata` (`Databases`), the style of a `\bibstyle` (`Styles`), or the file of an `\@input` (`Includes`). And a file is opened while `level`
-- files are open (`Opens`), isn't there (`Absent`), isn't opened since 20 are open (`Full`), or is too long (`TooLong`); or there is no top file
-- (`NoTop`).
pub data EventKind : Type 0 where
  Cites : (piece : Piece) → EventKind
  Databases : (pieces : List Piece) → EventKind
  Styles : (piece : Piece) → EventKind
  Includes : (piece : Piece) → EventKind
  Opens : (level : ℕ) → EventKind
  Absent : (name : List ℕ) → EventKind
  Full : EventKind
  TooLong : EventKind
  NoTop : EventKind

-- what a line says whose command and argument these are; nothing if the command is none of the four
abbrev pub words_of_command : Option Command → List ℕ → List EventKind
words_of_command None argument = []
words_of_command (Some Citation) argument = map Cites (pieces_of true argument)
words_of_command (Some Bibdata) argument = Databases (pieces_of true argument) ∷ []
words_of_command (Some Bibstyle) argument = Styles (first_piece (pieces_of false argument)) ∷ []
words_of_command (Some Input) argument = Includes (first_piece (pieces_of false argument)) ∷ []

-- what a line of an `.aux` file says, in order: nothing, unless the text before its first `{` is one of the four commands
unfoldable pub words_of : List ℕ → List EventKind
words_of line =
    let brace = byte "{" in
    let words_at : ℕ → List EventKind = λ place.
    words_of_command (aux_command_named (take place line)) (drop (place + 1) line) in
    option_map_or words_at (position (λ b. b == brace) line) []

-- how the reading ends at an event of this kind, if that ends it: 20 files are open, a file is too long, or there is no top file. After any other the
-- reading goes on, which is `Whole`
abbrev pub end_by : EventKind → End
end_by Full = end.TooManyOpen
end_by TooLong = end.FileLimit
end_by NoTop = end.TopMissing
end_by _ = end.Whole

-- the `.aux` files were read to their ends
abbrev pub is_whole : End → Bool
is_whole end.Whole = true
is_whole _ = false
