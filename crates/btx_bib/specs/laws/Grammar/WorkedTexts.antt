-- Worked texts of databases: what stands in them and what is wrong, and the texts of values.
use Rattle.std.specs.Prelude.{◌≡◌, ℕ, Bool, false, List, [], ◌∷◌, Option, None, Some, codes}
use Rattle.std.specs.List.{list_any}
use Rattle.btx_aux.specs.language.Names.{is_same_key}
use Rattle.btx_bib.specs.declared.grammar.byte_sets.Delimiter.TheVariants.{Braces, Parens}
use Rattle.btx_bib.specs.declared.grammar.commands.Expected.TheVariants as wanted
use Rattle.btx_bib.specs.declared.grammar.slip.SyntaxError.TheVariants.{NoName, NoDelimiter, NoComma, NoEquals, NoClosing, NoValue, Unbalanced, EndOfFile, Repeated}
use Rattle.btx_bib.specs.declared.grammar.value_ends.Ends.{Ends}
use Rattle.btx_bib.specs.declared.grammar.value_ends.Ends.TheVariants.{Kept, Trimmed}
use Rattle.btx_bib.specs.language.Grammar.Values.{Part, Braced, Quoted, Digits, Named}
use Rattle.btx_bib.specs.language.Grammar.Items.{Event, Comment, Preamble, Definition, Entry, FieldOf, ItemEnd, Wrong, events_from}
use Rattle.btx_bib.specs.laws.Grammar.Items.{by_history}
use Rattle.btx_bib.specs.laws.Grammar.ItemEvents.{bare_events}
use Rattle.btx_bib.specs.language.Grammar.ValueTexts.{value_text}

-- ---- events

-- an event is the entry of a key, whose case is ignored
abbrev pub is_entry_of : List ℕ → Event → Bool
is_entry_of key (Entry kind other) = is_same_key key other
is_entry_of key _ = false

-- an entry of a key is among some events
abbrev pub has_entry_of : List Event → List ℕ → Bool
has_entry_of events key = list_any (is_entry_of key) events

-- the name of a string in a value, and the text after it
abbrev pub name : List ℕ → List ℕ → Part
name string rest = Named (record { name = string; rest = rest })

-- a field
abbrev pub worked_field : List ℕ → List Part → Event
worked_field name value = FieldOf (record { name = name; value = value })

-- a text, and the events of it, where each entry is stored
pub record WorkedText : Type 0 where
  pub text : List ℕ
  pub events : List Event

-- a worked text and its events: `@misc{k,t={A{b}` is an entry with the key `k`, and then the file ends too early
abbrev pub text_row : List ℕ → List Event → WorkedText
text_row text events = record { text = text; events = events }

-- what stands in texts: items with their fields, and what is wrong
abbrev pub texts : List WorkedText
texts =
    -- nothing, and what stands outside any item
    text_row (codes "") []
    ∷ text_row (codes "jan = {x}\n% y") []
    -- fields have values of one part or of several; a comma may come after the last one
    ∷ text_row (codes "@misc{k, title={A{b}},\n TITLE = 1 # b,}")
    (Entry (codes "misc") (codes "k") ∷ worked_field (codes "title") (Braced (codes "A{b}") ∷ [])
    ∷ worked_field (codes "TITLE") (Digits (codes "1") ∷ name (codes "b") (codes ",}") ∷ []) ∷ ItemEnd ∷ [])
    -- in parentheses a key may have a brace
    ∷ text_row (codes "@a(b}, c = \"d\")") (Entry (codes "a") (codes "b}") ∷ worked_field (codes "c") (Quoted (codes "d") ∷ []) ∷ ItemEnd ∷ [])
    -- the case of a command is ignored
    ∷ text_row (codes "@PreAmble({a})@STRING{b = 1}@coMMent") (Preamble (Braced (codes "a") ∷ []) ∷ ItemEnd ∷ Definition (codes "b") (Digits (codes "1") ∷ []) ∷ ItemEnd
    ∷ Comment ∷ [])
    -- a comment ends with its own name
    ∷ text_row (codes "@comment{@misc{k}}") (Comment ∷ Entry (codes "misc") (codes "k") ∷ ItemEnd ∷ [])
    -- an `@` is a byte of names
    ∷ text_row (codes "@@misc{k} @comment@misc{l}") (Entry (codes "@misc") (codes "k") ∷ ItemEnd ∷ Entry (codes "comment@misc") (codes "l") ∷ ItemEnd ∷ [])
    -- a `"` inside braces ends nothing
    ∷ text_row (codes "@preamble{\"{\"}\"}") (Preamble (Quoted (codes "{\"}") ∷ []) ∷ ItemEnd ∷ [])
    -- digits end at a letter
    ∷ text_row (codes "@misc{k,t=12ab}") (Entry (codes "misc") (codes "k") ∷ worked_field (codes "t") (Digits (codes "12") ∷ []) ∷ Wrong (NoComma Braces) ∷ [])
    -- a name is missing; none begins with a digit
    ∷ text_row (codes "@1a{k}") (Wrong NoName ∷ [])
    ∷ text_row (codes "@misc{k, {x}}") (Entry (codes "misc") (codes "k") ∷ Wrong NoName ∷ [])
    -- an opening delimiter is missing, and a comma
    ∷ text_row (codes "@misc k}") (Wrong NoDelimiter ∷ [])
    ∷ text_row (codes "@misc{k f} x @comment@ @a(b) 12 {c}")
    (Entry (codes "misc") (codes "k") ∷ Wrong (NoComma Braces) ∷ Wrong NoDelimiter ∷ Entry (codes "a") (codes "b)") ∷ Wrong (NoComma Parens) ∷ [])
    -- an `=` is missing
    ∷ text_row (codes "@misc{k, title {x}}") (Entry (codes "misc") (codes "k") ∷ Wrong NoEquals ∷ [])
    ∷ text_row (codes "@string{s}") (Wrong NoEquals ∷ [])
    -- the closing delimiter is missing: it is the one that the item was opened with
    ∷ text_row (codes "@string{s = 1)") (Definition (codes "s") (Digits (codes "1") ∷ []) ∷ Wrong (NoClosing Braces) ∷ [])
    ∷ text_row (codes "@preamble(\"a\"}") (Preamble (Quoted (codes "a") ∷ []) ∷ Wrong (NoClosing Parens) ∷ [])
    -- a value is missing, and a part of one
    ∷ text_row (codes "@string{s = }") (Wrong NoValue ∷ [])
    ∷ text_row (codes "@misc{k, t = {A} # , u = 1}") (Entry (codes "misc") (codes "k") ∷ Wrong NoValue ∷ [])
    -- a `}` in quotes closes nothing
    ∷ text_row (codes "@misc(k, title = \"a}b\")") (Entry (codes "misc") (codes "k") ∷ Wrong Unbalanced ∷ [])
    -- the file ends before a key, inside an entry, after a value, which is read whole, after a `#`, and inside a group
    ∷ text_row (codes "@misc{") (Wrong EndOfFile ∷ [])
    ∷ text_row (codes "@String{s = \"x\" # s}\n@misc{k")
    (Definition (codes "s") (Quoted (codes "x") ∷ name (codes "s") (codes "}\n@misc{k") ∷ []) ∷ ItemEnd ∷ Entry (codes "misc") (codes "k") ∷ Wrong EndOfFile ∷ [])
    ∷ text_row (codes "@misc{k,t={A}") (Entry (codes "misc") (codes "k") ∷ worked_field (codes "t") (Braced (codes "A") ∷ []) ∷ Wrong EndOfFile ∷ [])
    ∷ text_row (codes "@misc{k,t={A} #") (Entry (codes "misc") (codes "k") ∷ Wrong EndOfFile ∷ [])
    ∷ text_row (codes "@misc{k,t={A{b}") (Entry (codes "misc") (codes "k") ∷ Wrong EndOfFile ∷ [])
    -- a second entry of a key, whose case is ignored, is a fault after its key; nothing of it is read
    ∷ text_row (codes "@misc{k,t={A}}\n@misc{K,t={B}}") (Entry (codes "misc") (codes "k") ∷ worked_field (codes "t") (Braced (codes "A") ∷ []) ∷ ItemEnd
    ∷ Wrong Repeated ∷ [])
    ∷ []

-- ---- values

-- a value, what names stand for in it, and its text, with or without its first and its last space
pub record WorkedValue : Type 0 where
  pub ends : Ends
  pub strings : List ℕ → Option (List ℕ)
  pub parts : List Part
  pub text : List ℕ

-- the texts of values: `{  a  b }` is `a b` as a field, and keeps a space at each end as a string
abbrev pub value_texts : List WorkedValue
value_texts =
    -- a field loses its first and its last space, a string keeps them
    record { ends = Trimmed; strings = λ name. None; parts = Braced (codes "\n  a  b ") ∷ []; text = codes "a b" }
    ∷ record { ends = Kept; strings = λ name. None; parts = Braced (codes "\n  a  b ") ∷ []; text = codes " a b " }
    -- whitespace over parts is one space
    ∷ record {
      ends = Kept;
      strings = λ name. Some (codes "x\t");
      parts = name (codes "s") [] ∷ Quoted (codes " y ") ∷ Braced (codes "  z") ∷ [];
      text = codes "x y z";
    }
    -- a name that stands for no string is nothing
    ∷ record { ends = Kept; strings = λ name. None; parts = Digits (codes "1") ∷ name (codes "s") [] ∷ Digits (codes "2") ∷ []; text = codes "12" }
    -- nothing but whitespace
    ∷ record { ends = Kept; strings = λ name. None; parts = Quoted (codes " \t\n") ∷ []; text = codes " " }
    ∷ record { ends = Trimmed; strings = λ name. None; parts = Quoted (codes " \t\n") ∷ []; text = [] }
    ∷ []

-- ---- each row is so

-- the text of each row has the events of the row
abbrev pub AreEvents : List WorkedText → Type 0
AreEvents [] = Unit {0}
AreEvents (row ∷ rows) = (bare_events (events_from (by_history has_entry_of) [] wanted.Item row.text) ≡ row.events) × AreEvents rows

-- the value of each row has the text of the row
abbrev pub AreValueTexts : List WorkedValue → Type 0
AreValueTexts [] = Unit {0}
AreValueTexts (row ∷ rows) = (value_text row.ends row.strings row.parts ≡ row.text) × AreValueTexts rows
