-- Whole items. After each `@` one is spelled, or something is wrong there; which items there are, and how they are spelled, is the
-- original's, and where a fault is met is this project's own.
use Rattle.std.specs.Prelude.{ℕ, zero, suc, List, [], ◌∷◌, length, Option, None, Some, Ok, Err}
use Rattle.btx_bib.specs.declared.grammar.byte_sets.Delimiter.{Delimiter}
use Rattle.btx_bib.specs.declared.grammar.commands.DatabaseCommand.{DatabaseCommand}
use Rattle.btx_bib.specs.declared.grammar.commands.DatabaseCommand.TheVariants as command
use Rattle.btx_bib.specs.declared.grammar.slip.SyntaxError.TheVariants.{NoEquals, NoClosing, EndOfFile}
use Rattle.btx_bib.specs.language.Grammar.Tokens.{Parsed, followed_by, name_at, open_at, sign_at, key_at, closing_delimiter}
use Rattle.btx_bib.specs.language.Grammar.Values.{Part, value_at}
use Rattle.btx_bib.specs.language.Grammar.Fields.{Field}
use Rattle.btx_bib.specs.language.Grammar.Items.{command_of}
use Rattle.btx_bib.specs.laws.Grammar.Spelling.{Grammar, Gives, Then, Spaced, NameHere, SignHere, ValueSpelling}
use Rattle.btx_bib.specs.laws.Grammar.Reading.{OpenHere, KeyHere, MoreHere}
use Rattle.btx_bib.specs.laws.Grammar.Fields.{more_at}
use Rattle.btx_text.specs.laws.Bytes.{equals_sign}

-- what comes after an `@`: an `@comment`, which ends with its own name; a `@preamble`; a `@string`; or an entry
pub data WholeItem : Type 0 where
  CommentItem : WholeItem
  PreambleItem : (value : List Part) → WholeItem
  StringItem : (name : List ℕ) (value : List Part) → WholeItem
  EntryItem : (kind key : List ℕ) (fields : List Field) → WholeItem

-- ---- how an item is spelled

-- whitespace, and the delimiter that closes the item: `}` or `)`
abbrev pub ClosingHere : Delimiter → Grammar (Unit {0})
ClosingHere delimiter = Spaced (SignHere (closing_delimiter delimiter) (NoClosing delimiter))

-- after one more field others follow; after the entry's end none does
abbrev pub OtherFields : Grammar (List Field) → Option Field → Grammar (List Field)
OtherFields others None = Gives []
OtherFields others (Some field) = Then others (λ fields. Gives (field ∷ fields))

-- the fields of an entry and its end, in this number of steps, or what is wrong in the last of them
abbrev pub FieldsOf : ℕ → Delimiter → Grammar (List Field)
FieldsOf zero delimiter o front rest = ⊥
FieldsOf (suc n) delimiter o front rest = Then (Spaced (MoreHere delimiter)) (OtherFields (FieldsOf n delimiter)) o front rest

-- the fields of an entry and its end
abbrev pub FieldsHere : Delimiter → Grammar (List Field)
FieldsHere delimiter o front rest = (n : ℕ) × FieldsOf n delimiter o front rest

-- what comes after the name `name` of an item, whose command is given
abbrev pub ItemOf : DatabaseCommand → List ℕ → Grammar WholeItem
ItemOf command.Comment name = Gives CommentItem
ItemOf command.Preamble name =
    Then (Spaced OpenHere) (λ delimiter. Then ValueSpelling (λ value. Then (ClosingHere delimiter) (λ sign. Gives (PreambleItem value))))
ItemOf command.Definition name =
    Then (Spaced OpenHere) (λ delimiter. Then (Spaced NameHere) (λ string. Then (Spaced (SignHere equals_sign NoEquals)) (λ sign.
    Then ValueSpelling (λ value. Then (ClosingHere delimiter) (λ end. Gives (StringItem string value))))))
ItemOf command.Entry name =
    Then (Spaced OpenHere) (λ delimiter. Then (Spaced (KeyHere delimiter)) (λ key.
    Then (FieldsHere delimiter) (λ fields. Gives (EntryItem name key fields))))

-- a whole item after its `@`, or what is wrong in it
abbrev pub ItemHere : Grammar WholeItem
ItemHere = Then (Spaced NameHere) (λ name. ItemOf (command_of name) name)

-- ---- the item that a text begins with

-- a field and those after it, or none where the entry is at its end
abbrev pub other_fields : (List ℕ → Parsed (List Field)) → Option Field → List ℕ → Parsed (List Field)
other_fields others None rest = Ok ([], rest)
other_fields others (Some field) rest = followed_by (others rest) (λ fields end. Ok (field ∷ fields, end))

-- the fields of an entry, at most `turns`. The bound is never reached, since each field takes a byte at least
unfoldable pub fields_within : ℕ → Delimiter → List ℕ → Parsed (List Field)
fields_within zero delimiter text = Err (EndOfFile, [])
fields_within (suc turns) delimiter text = followed_by (more_at delimiter text) (other_fields (fields_within turns delimiter))

-- the fields of an entry up to its closing delimiter, read from after its key on
unfoldable pub fields_at : Delimiter → List ℕ → Parsed (List Field)
fields_at delimiter text = fields_within (suc (length text)) delimiter text

-- the item whose command and name are given, read from after that name on
unfoldable pub whole_item : DatabaseCommand → List ℕ → List ℕ → Parsed WholeItem
whole_item command.Comment name text = Ok (CommentItem, text)
whole_item command.Preamble name text =
    followed_by (open_at text) (λ delimiter behind_open.
    followed_by (value_at behind_open) (λ value behind_value.
    followed_by (sign_at (closing_delimiter delimiter) (NoClosing delimiter) behind_value) (λ sign rest. Ok (PreambleItem value, rest))))
whole_item command.Definition name text =
    followed_by (open_at text) (λ delimiter behind_open.
    followed_by (name_at behind_open) (λ string behind_name.
    followed_by (sign_at equals_sign NoEquals behind_name) (λ sign behind_sign.
    followed_by (value_at behind_sign) (λ value behind_value.
    followed_by (sign_at (closing_delimiter delimiter) (NoClosing delimiter) behind_value) (λ end rest. Ok (StringItem string value, rest))))))
whole_item command.Entry name text =
    followed_by (open_at text) (λ delimiter behind_open.
    followed_by (key_at delimiter behind_open) (λ key behind_key.
    followed_by (fields_at delimiter behind_key) (λ fields rest. Ok (EntryItem name key fields, rest))))

-- a whole item, read from after its `@` on, or what is wrong in it
unfoldable pub whole_item_at : List ℕ → Parsed WholeItem
whole_item_at text = followed_by (name_at text) (λ name rest. whole_item (command_of name) name rest)
