-- Worked libraries: what short databases give to a job, where a database may be cut, and the lines of messages.
use Rattle.std.specs.Prelude.{◌≡◌, ℕ, List, [], ◌∷◌, ◌++◌, Option, None, Some, codes, if◌then◌else◌}
use Rattle.std.specs.Str.{bytes_eq}
use Rattle.btx_text.specs.declared.log_line.LineKind.{LineKind}
use Rattle.btx_text.specs.declared.log_line.LineKind.TheVariants as line
use Rattle.btx_text.specs.language.LogLines.{Line}
use Rattle.btx_bib.specs.declared.end.End.TheVariants as end
use Rattle.btx_bib.specs.declared.entry.Entry.{Entry}
use Rattle.btx_bib.specs.declared.grammar.byte_sets.Delimiter.TheVariants.{Braces, Parens}
use Rattle.btx_bib.specs.declared.grammar.slip.SyntaxError.TheVariants.{NoName, NoDelimiter, NoComma, NoEquals, NoClosing, NoValue, Unbalanced, EndOfFile, Repeated}
use Rattle.btx_bib.specs.declared.message.Message.{Message}
use Rattle.btx_bib.specs.declared.message.Message.TheVariants as message
use Rattle.btx_bib.specs.declared.message.SourcePosition.{SourcePosition}
use Rattle.btx_bib.specs.language.Request.{Request}
use Rattle.btx_bib.specs.language.Library.{Library}
use Rattle.btx_bib.specs.language.Messages.{Database}
use Rattle.btx_bib.specs.language.Databases.{library_of}
use Rattle.btx_bib.specs.language.MessageTexts.{message_line}
use Rattle.btx_bib.specs.laws.Cuts.{IsCutBetweenItems}
use Rattle.btx_bib.specs.laws.Databases.{with_macros}

-- ---- what the jobs ask, and how a library is written down

-- the fields are `crossref`, `title` and `booktitle`
abbrev pub declared_field : List ℕ → Option ℕ
declared_field name =
    if bytes_eq name (codes "crossref") then Some 0
    else if bytes_eq name (codes "title") then Some 1
    else if bytes_eq name (codes "booktitle") then Some 2 else None

-- the number of the type `misc`
abbrev pub misc : Option ℕ
misc = Some 0

-- the number of the type `book`
abbrev pub book_type : Option ℕ
book_type = Some 1

-- the style has functions for the types `misc` and `book`
abbrev pub kind : List ℕ → Option ℕ
kind name = if bytes_eq name (codes "misc") then misc else if bytes_eq name (codes "book") then book_type else None

-- a job that cites these keys, where an entry that isn't cited stays with this number of references
abbrev pub citing : List (List ℕ) → ℕ → Request
citing keys fewest = record { cited = keys; all = None; field = declared_field; count = 3; kind = kind; fewest = fewest }

-- a job that cites `*` after this number of its keys
abbrev pub citing_all : List (List ℕ) → ℕ → Request
citing_all keys place = record { cited = keys; all = Some place; field = declared_field; count = 3; kind = kind; fewest = 0 }

-- a database of this text
abbrev pub database_with : List ℕ → Database
database_with text = record { file = codes "d.bib"; text = text }

-- the spot in the line of this number of the database `d.bib`, after this number of its bytes
abbrev pub spot_in : ℕ → ℕ → SourcePosition
spot_in number place = record { file = codes "d.bib"; line = number; at = place }

-- the line of this number in the database `d.bib`, where its bytes don't matter
abbrev pub at_line : ℕ → SourcePosition
at_line number = spot_in number 0

-- an entry with its `crossref`, its `title` and its `booktitle`
abbrev pub worked_entry : Option ℕ → List ℕ → Option (List ℕ) → Option (List ℕ) → Option (List ℕ) → Entry
worked_entry kind key parent title booktitle = record { key = key; kind = kind; values = parent ∷ title ∷ booktitle ∷ [] }

-- a library whose databases were read to their ends
abbrev pub whole_library : List Entry → List Message → Library
whole_library entries messages = record { entries = entries; preamble = []; messages = messages; ending = end.Whole }

-- ---- libraries

-- a job, the macros of its style, its databases, and what they give
pub record WorkedLibrary : Type 0 where
  pub wanted : Request
  pub macros : List (List ℕ × List ℕ)
  pub databases : List Database
  pub library : Library

-- a job with one database, whose style has no macro
abbrev pub library_row : Request → List ℕ → Library → WorkedLibrary
library_row wanted text library = record { wanted = wanted; macros = []; databases = database_with text ∷ []; library = library }

-- worked libraries: what an entry, its fields and strings give
abbrev pub entries : List WorkedLibrary
entries =
    -- a string that names itself, a name that stands for no string, and whitespace over parts
    library_row (citing (codes "k" ∷ []) 2) (codes "@string{s = \"x\" # s}\n@misc{k, title = s # \" y \" # zz # {  z}}")
    (whole_library (worked_entry misc (codes "k") None (Some (codes "x y z")) None ∷ [])
    (message.OwnString (codes "s") (spot_in 1 19) ∷ message.UndefinedString (codes "zz") (spot_in 2 52) ∷ []))
    -- the case of a string's name doesn't count, in its own definition either
    ∷ library_row (citing (codes "k" ∷ []) 2) (codes "@string{s = {x}}\n@string{S = s # {y}}\n@misc{k, title = s}")
    (whole_library (worked_entry misc (codes "k") None (Some (codes "y")) None ∷ []) (message.OwnString (codes "s") (spot_in 2 30) ∷ []))
    -- an extra field over two lines, and a name that stands for no string: the first message has the line where the value ends, the other the line of the name
    ∷ library_row (citing (codes "k" ∷ []) 2) (codes "@misc{k, title = {A},\n title = {B\nC},\n booktitle = zz}")
    (whole_library (worked_entry misc (codes "k") None (Some (codes "A")) (Some []) ∷ [])
    (message.ExtraField (codes "k") (codes "title") (spot_in 3 36) ∷ message.UndefinedString (codes "zz") (spot_in 4 53) ∷ []))
    -- a value that ends in a fault isn't stored, and its entry is
    ∷ library_row (citing (codes "k" ∷ []) 2) (codes "@misc(k, title = \"a}b\")")
    (whole_library (worked_entry misc (codes "k") None None None ∷ []) (message.Wrong Unbalanced (spot_in 1 19) ∷ []))
    -- of two entries with one key the first is stored
    ∷ library_row (citing (codes "k" ∷ []) 2) (codes "@misc{k, title={A}}\n@misc{K, title={B}}")
    (whole_library (worked_entry misc (codes "k") None (Some (codes "A")) None ∷ []) (message.Wrong Repeated (spot_in 2 27) ∷ []))
    -- of two fields with one name the first is stored
    ∷ library_row (citing (codes "k" ∷ []) 2) (codes "@misc{k, title={A}, TITLE={B},}")
    (whole_library (worked_entry misc (codes "k") None (Some (codes "A")) None ∷ []) (message.ExtraField (codes "k") (codes "TITLE") (spot_in 1 29) ∷ []))
    -- an entry that isn't stored has no message
    ∷ library_row (citing (codes "k" ∷ []) 2) (codes "@misc{j, title = zz} @misc{k}")
    (whole_library (worked_entry misc (codes "k") None None None ∷ []) [])
    -- nor has a type that the style doesn't have, where its entry isn't stored
    ∷ library_row (citing (codes "k" ∷ []) 2) (codes "@other{j} @misc{k}")
    (whole_library (worked_entry misc (codes "k") None None None ∷ []) [])
    -- nor has a field that the style doesn't declare
    ∷ library_row (citing (codes "k" ∷ []) 2) (codes "@misc{k, note = zz, title = {A}}")
    (whole_library (worked_entry misc (codes "k") None (Some (codes "A")) None ∷ []) [])
    -- a name that stands for no string has a message each time; a string that is made of it alone is empty
    ∷ library_row (citing (codes "k" ∷ []) 2) (codes "@string{s = zz}\n@misc{k, title = s, booktitle = yy # {B} # yy}")
    (whole_library (worked_entry misc (codes "k") None (Some []) (Some (codes "B")) ∷ [])
    (message.UndefinedString (codes "zz") (spot_in 1 14) ∷ message.UndefinedString (codes "yy") (spot_in 2 50)
    ∷ message.UndefinedString (codes "yy") (spot_in 2 61) ∷ []))
    -- and so in a preamble
    ∷ library_row (citing (codes "k" ∷ []) 2) (codes "@preamble{zz}\n@preamble{{x} # yy}@misc{k}") (record {
      entries = worked_entry misc (codes "k") None None None ∷ [];
      preamble = codes "x";
      messages = message.UndefinedString (codes "zz") (spot_in 1 12) ∷ message.UndefinedString (codes "yy") (spot_in 2 32) ∷ [];
      ending = end.Whole;
    })
    -- at the end of the file the fields that were read stand
    ∷ library_row (citing (codes "k" ∷ []) 2) (codes "@misc{k, title = {A}, note = \"cu")
    (whole_library (worked_entry misc (codes "k") None (Some (codes "A")) None ∷ []) (message.Wrong EndOfFile (spot_in 1 32) ∷ []))
    -- a type that the style doesn't have; a message has the key as it stands there, and the list as it was cited; preambles are joined
    ∷ library_row (citing (codes "k" ∷ []) 2) (codes "@preamble{\"a \" # {b}}@other{K,\n title={ T  }}@preamble{{c}}") (record {
      entries = worked_entry None (codes "k") None (Some (codes "T")) None ∷ [];
      preamble = codes "a bc";
      messages = message.UnknownKind (codes "K") (spot_in 1 29) ∷ [];
      ending = end.Whole;
    })
    -- a macro of the style, a string of the first database in the second one, and lines of the second one
    ∷ record {
      wanted = citing (codes "k" ∷ codes "j" ∷ []) 2;
      macros = (codes "jan", codes "January") ∷ [];
      databases = database_with (codes "@string{s=jan # { 1}}@misc{k") ∷ record { file = codes "e.bib"; text = codes "\n@misc{j,title=s}@=" } ∷ [];
      library =
          whole_library (worked_entry misc (codes "k") None None None ∷ worked_entry misc (codes "j") None (Some (codes "January 1")) None ∷ [])
          (message.Wrong EndOfFile (spot_in 1 28) ∷ message.Wrong NoName (record { file = codes "e.bib"; line = 2; at = 18 }) ∷ []);
    }
    ∷ []

-- worked libraries: the order of the list, and cross-references
abbrev pub reference_rows : List WorkedLibrary
reference_rows =
    -- a parent with too few references leaves, and what was inherited stays; with one reference asked for all parents stay
    library_row (citing (codes "c" ∷ []) 2) (codes "@misc{c, crossref={p}}\n@misc{p, title={P}, crossref={g}}\n@book{g, booktitle={G}}")
    (whole_library (worked_entry misc (codes "c") None (Some (codes "P")) None ∷ []) (message.NestedReference (codes "c") (codes "p") ∷ []))
    ∷ library_row (citing (codes "c" ∷ []) 1) (codes "@misc{c, crossref={p}}\n@misc{p, title={P}, crossref={g}}\n@book{g, booktitle={G}}")
    (whole_library (worked_entry misc (codes "c") (Some (codes "p")) (Some (codes "P")) None
    ∷ worked_entry misc (codes "p") (Some (codes "g")) (Some (codes "P")) (Some (codes "G"))
    ∷ worked_entry book_type (codes "g") None None (Some (codes "G")) ∷ [])
    (message.NestedReference (codes "c") (codes "p") ∷ []))
    -- a parent that stands before its child and isn't cited is not stored
    ∷ library_row (citing (codes "c" ∷ []) 2) (codes "@book{p, booktitle={V}}\n@misc{c, crossref={p}}")
    (whole_library (worked_entry misc (codes "c") None None None ∷ []) (message.BadReference (codes "c") (codes "p") ∷ message.NoEntry (codes "p") ∷ []))
    -- the messages of databases come first, then those of references, and then those of keys without an entry
    ∷ library_row (citing (codes "c" ∷ codes "nope" ∷ []) 2) (codes "@misc{c, crossref={p}}\n@misc{C}")
    (whole_library (worked_entry misc (codes "c") None None None ∷ [])
    (message.Wrong Repeated (spot_in 2 30) ∷ message.BadReference (codes "c") (codes "p") ∷ message.NoEntry (codes "nope") ∷ message.NoEntry (codes "p") ∷ []))
    -- one reference is fewer than two
    ∷ library_row (citing (codes "c1" ∷ []) 2)
    (codes "@misc{c1, title = {One}, crossref = {p}}\n@misc{c2, title = {Two}, crossref = {p}}\n@book{P, booktitle = {Vol}}")
    (whole_library (worked_entry misc (codes "c1") None (Some (codes "One")) (Some (codes "Vol")) ∷ []) [])
    -- two references keep a parent, which is spelled as its entry has it
    ∷ library_row (citing (codes "c1" ∷ codes "c2" ∷ []) 2)
    (codes "@misc{c1, title = {One}, crossref = {p}}\n@misc{c2, title = {Two}, crossref = {p}}\n@book{P, booktitle = {Vol}}")
    (whole_library (worked_entry misc (codes "c1") (Some (codes "P")) (Some (codes "One")) (Some (codes "Vol"))
    ∷ worked_entry misc (codes "c2") (Some (codes "P")) (Some (codes "Two")) (Some (codes "Vol"))
    ∷ worked_entry book_type (codes "P") None None (Some (codes "Vol")) ∷ [])
    [])
    -- an empty reference names the empty key
    ∷ library_row (citing (codes "k" ∷ []) 2) (codes "@misc{k,crossref={}}")
    (whole_library (worked_entry misc (codes "k") None None None ∷ []) (message.BadReference (codes "k") [] ∷ message.NoEntry [] ∷ []))
    -- an entry that refers to itself: nothing is inherited, and it has a parent with a parent
    ∷ library_row (citing (codes "k" ∷ []) 2) (codes "@misc{k,crossref={K}}")
    (whole_library (worked_entry misc (codes "k") (Some (codes "k")) None None ∷ []) (message.NestedReference (codes "k") (codes "k") ∷ []))
    -- a parent that is cited later stands at its own place
    ∷ library_row (citing (codes "c" ∷ codes "p" ∷ []) 2) (codes "@misc{c,crossref={P}}@book{p,title={T}}")
    (whole_library (worked_entry misc (codes "c") (Some (codes "p")) (Some (codes "T")) None ∷ worked_entry book_type (codes "p") None (Some (codes "T")) None
    ∷ []) [])
    -- with `*` the keys cited before it come first, then all other entries in their order
    ∷ library_row (citing_all (codes "b" ∷ codes "c" ∷ codes "e" ∷ []) 1) (codes "@misc{a}@misc{b}@misc{c}@misc{d}")
    (whole_library (worked_entry misc (codes "b") None None None ∷ worked_entry misc (codes "a") None None None ∷ worked_entry misc (codes "c") None None None
    ∷ worked_entry misc (codes "d") None None None ∷ [])
    (message.NoEntry (codes "e") ∷ []))
    -- with `*` a key that was cited after it stands where its entry does, spelled as it was cited
    ∷ library_row (citing_all (codes "K" ∷ []) 0) (codes "@misc{a}@misc{k}@misc{b}")
    (whole_library (worked_entry misc (codes "a") None None None ∷ worked_entry misc (codes "K") None None None ∷ worked_entry misc (codes "b") None None None
    ∷ []) [])
    -- with `*` a reference adds no key
    ∷ library_row (citing_all [] 0) (codes "@misc{k,crossref={P}}")
    (whole_library (worked_entry misc (codes "k") None None None ∷ []) (message.BadReference (codes "k") (codes "P") ∷ []))
    ∷ []

-- ---- cuts

-- the two texts into which a database is cut
pub record WorkedCut : Type 0 where
  pub first : List ℕ
  pub second : List ℕ

-- a worked cut, of the text before it and the text after it
abbrev pub worked_cut : List ℕ → List ℕ → WorkedCut
worked_cut first second = record { first = first; second = second }

-- texts that are cut where no item is open
abbrev pub cuts : List WorkedCut
cuts =
    -- after a string, and in front of an entry that uses it
    worked_cut (codes "@string{s={A}}") (codes "@misc{k,title=s}")
    -- before the first item, and after a text that belongs to none
    ∷ worked_cut (codes "A database\n") (codes "@misc{k}")
    ∷ worked_cut (codes "@misc{j} an") (codes "d @misc{k}")
    -- directly after an `@comment`, in front of what doesn't go on with its name
    ∷ worked_cut (codes "@comment") (codes "{@misc{k}}")
    ∷ worked_cut (codes "@misc{k} @COMMENT") (codes "\n@misc{j}")
    ∷ []

-- texts that are cut where an item is open
abbrev pub no_cuts : List WorkedCut
no_cuts =
    -- inside an entry, and inside a name
    worked_cut (codes "@misc{k") (codes "}")
    ∷ worked_cut (codes "@mi") (codes "sc{k}")
    -- directly after an `@comment`, in front of what goes on with its name: an `@` does
    ∷ worked_cut (codes "@comment") (codes "s{k}")
    ∷ worked_cut (codes "@comment") (codes "@misc{k}")
    ∷ []

-- ---- the lines of messages

-- a message, and its line of the log
pub record WorkedMessage : Type 0 where
  pub message : Message
  pub line : Line

-- a worked message, the kind of its line and the text of that: a `NoEntry` of `nope` is a warning, which says that no entry was found for it
abbrev pub message_row : Message → LineKind → List ℕ → WorkedMessage
message_row message kind text = record { message = message; line = record { text = text; kind = kind } }

-- the line of each message about databases
abbrev pub messages : List WorkedMessage
messages =
    -- what is wrong is an error, with its line
    message_row (message.Wrong NoName (at_line 1)) line.Error (codes "Error--I was expecting a name--line 1 of file d.bib")
    ∷ message_row (message.Wrong NoDelimiter (at_line 2)) line.Error (codes "Error--I was expecting a { or a (--line 2 of file d.bib")
    ∷ message_row (message.Wrong (NoComma Braces) (at_line 10)) line.Error (codes "Error--I was expecting a , or a }--line 10 of file d.bib")
    ∷ message_row (message.Wrong (NoComma Parens) (at_line 1)) line.Error (codes "Error--I was expecting a , or a )--line 1 of file d.bib")
    ∷ message_row (message.Wrong NoEquals (at_line 1)) line.Error (codes "Error--I was expecting an =--line 1 of file d.bib")
    ∷ message_row (message.Wrong (NoClosing Braces) (at_line 1)) line.Error (codes "Error--I was expecting a }--line 1 of file d.bib")
    ∷ message_row (message.Wrong (NoClosing Parens) (at_line 1)) line.Error (codes "Error--I was expecting a )--line 1 of file d.bib")
    ∷ message_row (message.Wrong NoValue (at_line 1)) line.Error (codes "Error--I was expecting a value--line 1 of file d.bib")
    ∷ message_row (message.Wrong Unbalanced (at_line 1)) line.Error (codes "Error--Unbalanced braces--line 1 of file d.bib")
    ∷ message_row (message.Wrong EndOfFile (at_line 1)) line.Error (codes "Error--Illegal end of database file--line 1 of file d.bib")
    ∷ message_row (message.Wrong Repeated (at_line 1)) line.Error (codes "Error--Repeated entry--line 1 of file d.bib")
    -- what is left out is a warning, with its line
    ∷ message_row (message.UndefinedString (codes "zz") (at_line 2)) line.Warning (codes "Warning--string name \"zz\" is undefined--line 2 of file d.bib")
    ∷ message_row (message.OwnString (codes "s") (at_line 1)) line.Warning
    (codes "Warning--string name \"s\" is used in its own definition--line 1 of file d.bib")
    ∷ message_row (message.ExtraField (codes "k") (codes "TITLE") (at_line 1)) line.Warning
    (codes "Warning--I'm ignoring k's extra \"TITLE\" field--line 1 of file d.bib")
    ∷ message_row (message.UnknownKind (codes "k") (at_line 1)) line.Warning
    (codes "Warning--entry type for \"k\" isn't style-file defined--line 1 of file d.bib")
    -- a reference and a key have no line; a parent without an entry is an error
    ∷ message_row (message.BadReference (codes "c") (codes "p")) line.Error
    (codes "Error--A bad cross reference--entry \"c\" refers to entry \"p\", which doesn't exist")
    ∷ message_row (message.NestedReference (codes "c") (codes "p")) line.Warning
    (codes "Warning--you've nested cross references--entry \"c\" refers to entry \"p\"")
    ∷ message_row (message.NoEntry (codes "nope")) line.Warning (codes "Warning--I didn't find a database entry for \"nope\"")
    ∷ []

-- ---- each row is so

-- the databases of each row give to its job the library of the row
abbrev pub AreGiven : List WorkedLibrary → Type 0
AreGiven [] = Unit {0}
AreGiven (row ∷ rows) = (library_of row.wanted row.macros row.databases ≡ row.library) × AreGiven rows

-- a job that cites `k` finds the database cut between items
abbrev pub IsCut : WorkedCut → Type 0
IsCut row = IsCutBetweenItems (citing (codes "k" ∷ []) 2) (with_macros []) (database_with (row.first ++ row.second)) (database_with row.first)
    (database_with row.second)

-- each row is a cut between items
abbrev pub AreCuts : List WorkedCut → Type 0
AreCuts [] = Unit {0}
AreCuts (row ∷ rows) = IsCut row × AreCuts rows

-- no row is a cut between items
abbrev pub AreNoCuts : List WorkedCut → Type 0
AreNoCuts [] = Unit {0}
AreNoCuts (row ∷ rows) = (IsCut row → ⊥) × AreNoCuts rows

-- the message of each row has the line of the row
abbrev pub AreLines : List WorkedMessage → Type 0
AreLines [] = Unit {0}
AreLines (row ∷ rows) = (message_line row.message ≡ row.line) × AreLines rows
