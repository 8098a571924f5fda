-- The events of a database, of which laws speak.
use Rattle.std.specs.Prelude.{◌≡◌, true, false, List, [], ◌∷◌, ◌++◌, None, ℕ, fold}
use Rattle.btx_text.specs.language.Limits.{is_too_long}
use Rattle.btx_bib.specs.declared.grammar.commands.Expected.TheVariants.{Item}
use Rattle.btx_bib.specs.language.Grammar.Items.{Placed, events_from}
use Rattle.btx_bib.specs.language.Request.{Request}
use Rattle.btx_bib.specs.language.Known.{Known, goes_on, stored_keys}
use Rattle.btx_bib.specs.language.Messages.{Database, Reading}
use Rattle.btx_bib.specs.declared.end.End.TheVariants as end
use Rattle.btx_bib.specs.language.Databases.{with_macro, read_one, library_of}

-- what is known before any macro or database is read: no strings, no entries and no preamble
abbrev pub nothing : Known
nothing = record { strings = []; stored = []; current = None; preamble = []; ending = end.Whole }

-- what is known before the first database: each macro of the style is a string
abbrev pub with_macros : List (List ℕ × List ℕ) → Known
with_macros macros = fold with_macro nothing macros

-- databases are read one after the other, from the style's macros on
abbrev pub read_all : Request → List (List ℕ × List ℕ) → List Database → Reading
read_all wanted macros databases = fold (read_one wanted) (record { known = with_macros macros; messages = [] }) databases

-- what stands in a database and what is wrong in it, item by item; which entries are repeated depends on what is known before it
abbrev pub database_events : Request → Known → Database → List Placed
database_events wanted known database = events_from (stored_keys wanted) known Item database.text

-- where the reading ends at a limit, the library has the messages until then
abbrev pub MessagesStay : Type 0
MessagesStay = (wanted : Request) (macros : List (List ℕ × List ℕ)) (databases : List Database)
    → goes_on (read_all wanted macros databases).known.ending ≡ false
    → (library_of wanted macros databases).messages ≡ (read_all wanted macros databases).messages

-- a database that is too long ends the reading: the messages are those of the databases before it, and none is read after it
abbrev pub LongDatabaseEnds : Type 0
LongDatabaseEnds = (wanted : Request) (macros : List (List ℕ × List ℕ)) (before : List Database) (database : Database) (behind : List Database)
    → goes_on (read_all wanted macros before).known.ending ≡ true → is_too_long database.text ≡ true
    → (library_of wanted macros (before ++ database ∷ behind)).messages ≡ (read_all wanted macros before).messages
