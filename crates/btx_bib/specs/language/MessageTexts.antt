-- The lines of the log for messages. Names and keys stand as the databases spell them, those of the list as the list does. The
-- text for a key without an entry is the original's, the other texts are this project's own.
use Rattle.std.specs.Prelude.{ℕ, List, [], ◌++◌, Option, None, Some, codes}
use Rattle.btx_text.specs.declared.log_line.LineKind.{LineKind}
use Rattle.btx_text.specs.declared.log_line.LineKind.TheVariants as line
use Rattle.btx_text.specs.language.LogLines.{Line, mark_of, place_text}
use Rattle.btx_bib.specs.declared.grammar.byte_sets.Delimiter.TheVariants.{Braces, Parens}
use Rattle.btx_bib.specs.declared.grammar.slip.SyntaxError.{SyntaxError}
use Rattle.btx_bib.specs.declared.grammar.slip.SyntaxError.TheVariants.{NoName, NoDelimiter, NoComma, NoEquals, NoClosing, NoValue, Unbalanced, EndOfFile, Repeated}
use Rattle.btx_bib.specs.declared.message.Message.{Message}
use Rattle.btx_bib.specs.declared.message.Message.TheVariants.{Wrong, UnknownKind, ExtraField, UndefinedString, OwnString, BadReference, NestedReference}
use Rattle.btx_bib.specs.declared.message.Message.TheVariants.{NoEntry}
use Rattle.btx_bib.specs.declared.message.SourcePosition.{SourcePosition}
use Rattle.std.specs.Option.{option_map_or}

-- what is wrong at a place of a database, in words
unfoldable pub slip_text : SyntaxError → List ℕ
slip_text NoName = codes "I was expecting a name"
slip_text NoDelimiter = codes "I was expecting a { or a ("
slip_text (NoComma Braces) = codes "I was expecting a , or a }"
slip_text (NoComma Parens) = codes "I was expecting a , or a )"
slip_text NoEquals = codes "I was expecting an ="
slip_text (NoClosing Braces) = codes "I was expecting a }"
slip_text (NoClosing Parens) = codes "I was expecting a )"
slip_text NoValue = codes "I was expecting a value"
slip_text Unbalanced = codes "Unbalanced braces"
slip_text EndOfFile = codes "Illegal end of database file"
slip_text Repeated = codes "Repeated entry"

-- the text of a message, without `Warning--` or `Error--` before it and without its place
unfoldable pub message_text : Message → List ℕ
message_text (Wrong slip spot) = slip_text slip
message_text (UnknownKind key spot) = codes "entry type for \"" ++ key ++ codes "\" isn't style-file defined"
message_text (ExtraField key field spot) = codes "I'm ignoring " ++ key ++ codes "'s extra \"" ++ field ++ codes "\" field"
message_text (UndefinedString name spot) = codes "string name \"" ++ name ++ codes "\" is undefined"
message_text (OwnString name spot) = codes "string name \"" ++ name ++ codes "\" is used in its own definition"
message_text (BadReference child parent) =
    codes "A bad cross reference--entry \"" ++ child ++ codes "\" refers to entry \"" ++ parent ++ codes "\", which doesn't exist"
message_text (NestedReference child parent) =
    codes "you've nested cross references--entry \"" ++ child ++ codes "\" refers to entry \"" ++ parent ++ codes "\""
message_text (NoEntry key) = codes "I didn't find a database entry for \"" ++ key ++ codes "\""

-- what is wrong is an error, and so is a parent that has no entry; all else is a warning
abbrev pub message_kind : Message → LineKind
message_kind (Wrong slip spot) = line.Error
message_kind (BadReference child parent) = line.Error
message_kind _ = line.Warning

-- the line of a database where a message is met: messages of cross-references and of keys without an entry have none
abbrev pub position_of : Message → Option SourcePosition
position_of (Wrong slip spot) = Some spot
position_of (UnknownKind key spot) = Some spot
position_of (ExtraField key field spot) = Some spot
position_of (UndefinedString name spot) = Some spot
position_of (OwnString name spot) = Some spot
position_of _ = None

-- the line of the log for a message, which ends with its place, if it has one: `--line 7 of file refs.bib`
abbrev pub message_line : Message → Line
message_line message = record {
  text = mark_of (message_kind message) ++ message_text message
      ++ option_map_or (λ (spot : SourcePosition). place_text spot.line spot.file) (position_of message) [];
  kind = message_kind message;
}
