-- What some databases give to a job, read one after the other.
use Rattle.std.specs.Prelude.{ℕ, List, [], ◌++◌, fold, None, not, if◌then◌else◌}
use Rattle.btx_text.specs.language.Limits.{is_too_long}
use Rattle.btx_bib.specs.declared.end.End.{End}
use Rattle.btx_bib.specs.declared.end.End.TheVariants as end
use Rattle.btx_bib.specs.declared.grammar.commands.Expected.TheVariants.{Item}
use Rattle.btx_bib.specs.declared.message.Message.{Message}
use Rattle.btx_bib.specs.language.Grammar.Items.{events_from}
use Rattle.btx_bib.specs.language.Grammar.ValueTexts.{squeezed}
use Rattle.btx_bib.specs.language.Library.{Library}
use Rattle.btx_bib.specs.language.Request.{Request}
use Rattle.btx_bib.specs.language.Strings.{defined}
use Rattle.btx_bib.specs.language.Listing.{slots_of}
use Rattle.btx_bib.specs.language.Passes.{entries_of, reference_messages}
use Rattle.btx_bib.specs.language.Known.{Known, goes_on, with_current_stored, if_fits, stored_keys}
use Rattle.btx_bib.specs.language.Messages.{Database, Reading, read_next}

-- ---- before the first database

-- a macro of the style, its name in lower case and its text, is a string whose text is the value
abbrev pub with_macro : Known → List ℕ × List ℕ → Known
with_macro known macro =
    if goes_on known.ending then (let text = squeezed macro.1 in if_fits text known (record known { strings = defined known.strings macro.0 text })) else known

-- ---- one database

-- reads a database event by event, unless the reading has ended already; a file that is too long ends it. At the end of the database the entry that is
-- being read is at its end too
abbrev pub read_one : Request → Reading → Database → Reading
read_one wanted reading database =
    if not (goes_on reading.known.ending) then reading
    else if is_too_long database.text then record reading { known = record reading.known { ending = end.FileLimit } }
    else
    let last =
    fold (read_next wanted database) reading
    (events_from (stored_keys wanted) reading.known Item database.text) in
    record last { known = with_current_stored last.known }

-- ---- all databases

-- the library made of what is known at the end: after a limit it has no entries and no preamble, and only the messages until then
abbrev pub library_by : End → Request → Known → List Message → Library
library_by end.Whole wanted known messages = record {
  entries = entries_of (slots_of wanted known.stored);
  preamble = known.preamble;
  messages = messages ++ reference_messages (slots_of wanted known.stored);
  ending = end.Whole;
}
library_by end.FileLimit wanted known messages = record { entries = []; preamble = []; messages = messages; ending = end.FileLimit }
library_by end.StringLimit wanted known messages = record { entries = []; preamble = []; messages = messages; ending = end.StringLimit }

-- what databases give to a job, where `macros` are those of its style. At the start no strings, no entries and no preamble are known. Then each macro
-- is a string, and the databases are read one after the other
unfoldable pub library_of : Request → List (List ℕ × List ℕ) → List Database → Library
library_of wanted macros databases =
    let start : Known = record { strings = []; stored = []; current = None; preamble = []; ending = end.Whole } in
    let reading = fold (read_one wanted) (record { known = fold with_macro start macros; messages = [] }) databases in
    library_by reading.known.ending wanted reading.known reading.messages
