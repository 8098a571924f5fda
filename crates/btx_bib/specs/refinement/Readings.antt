-- What the code keeps along whole databases, and the messages.
use Rattle.std.specs.Prelude.{◌≡◌, ℕ, nat_lt, List, [], ◌∷◌, ◌++◌, length, None, if◌then◌else◌}
use Rattle.btx_text.specs.language.Limits.{greatest_string, is_too_long}
use Rattle.btx_bib.specs.declared.draft.ListBuilder.{ListBuilder}
use Rattle.btx_bib.specs.declared.end.End.{End}
use Rattle.btx_bib.specs.declared.end.End.TheVariants as end
use Rattle.btx_bib.specs.declared.end.End.TheVariants.{FileLimit}
use Rattle.btx_bib.specs.declared.gathering.Gathering.{Gathering}
use Rattle.btx_bib.specs.declared.grammar.commands.Expected.TheVariants.{Item}
use Rattle.btx_bib.specs.declared.message.Message.{Message}
use Rattle.btx_bib.specs.refinement.Drafts.{cited_all, empty, settled_all}
use Rattle.btx_bib.specs.language.Grammar.ValueTexts.{squeezed}
use Rattle.btx_bib.specs.refinement.Gatherings.{closed, events_with, kept_along, kept_messages}
use Rattle.btx_bib.specs.language.Known.{goes_on}
use Rattle.btx_bib.specs.language.Library.{Library}
use Rattle.btx_bib.specs.language.Listing.{Slot, first_cited, last_cited}
use Rattle.btx_bib.specs.language.Passes.{entries_of, reference_messages}
use Rattle.btx_bib.specs.refinement.Steps.{lower_keys}
use Rattle.btx_bib.specs.language.Strings.{defined}
use Rattle.btx_bib.specs.language.Messages.{Database}
use Rattle.btx_bib.specs.language.Request.{Request}

-- what is kept after a database
abbrev pub kept_one : Request → Gathering → Database → Gathering
kept_one wanted kept database =
    if goes_on kept.ending then
    (if is_too_long database.text then record kept { ending = FileLimit }
    else closed wanted (kept_along wanted kept (events_with wanted kept Item database.text)))
    else kept

-- the messages of it
abbrev pub messages_of_one : Request → Gathering → Database → List Message
messages_of_one wanted kept database =
    if goes_on kept.ending then (if is_too_long database.text then [] else kept_messages wanted database kept (events_with wanted kept Item database.text))
    else []

-- the same of all databases
abbrev pub kept_by_all : Request → Gathering → List Database → Gathering
kept_by_all wanted kept [] = kept
kept_by_all wanted kept (database ∷ databases) = kept_by_all wanted (kept_one wanted kept database) databases

abbrev pub messages_of_all : Request → Gathering → List Database → List Message
messages_of_all wanted kept [] = []
messages_of_all wanted kept (database ∷ databases) = messages_of_one wanted kept database ++ messages_of_all wanted (kept_one wanted kept database) databases

-- ---- before the first database

-- what is kept where nothing was read
abbrev pub nothing_gathered : Request → Gathering
nothing_gathered wanted = record {
  draft = cited_all wanted empty (first_cited wanted.all wanted.cited);
  strings = [];
  current = None;
  preamble = [];
  ending = end.Whole;
}

-- what is kept after a macro of the style
abbrev pub kept_macro : Gathering → List ℕ × List ℕ → Gathering
kept_macro kept macro =
    if goes_on kept.ending then
    (let text = squeezed macro.1 in if nat_lt greatest_string (length text) then record kept { ending = end.StringLimit }
    else record kept { strings = defined kept.strings macro.0 text })
    else kept

abbrev pub kept_macros : Gathering → List (List ℕ × List ℕ) → Gathering
kept_macros kept [] = kept
kept_macros kept (macro ∷ macros) = kept_macros (kept_macro kept macro) macros

-- ---- after the last one

-- the list with the keys that were cited after `*`
abbrev pub listed_draft : Request → ListBuilder → ListBuilder
listed_draft wanted draft = cited_all wanted draft (last_cited wanted.all wanted.cited)

-- its names are the keys of its places
abbrev pub IsListed : ListBuilder → Type 0
IsListed draft = draft.names ≡ lower_keys (settled_all draft.slots)

-- the library of these places, with this preamble, after these messages
abbrev pub library_listed : List Slot → List ℕ → List Message → Library
library_listed slots preamble messages = record {
  entries = entries_of slots;
  preamble = preamble;
  messages = messages ++ reference_messages slots;
  ending = end.Whole;
}

-- the library of what is kept, with these messages
abbrev pub library_kept : End → Request → Gathering → List Message → Library
library_kept end.Whole wanted kept messages = library_listed (settled_all (listed_draft wanted kept.draft).slots) kept.preamble messages
library_kept end.FileLimit wanted kept messages = record { entries = []; preamble = []; messages = messages; ending = end.FileLimit }
library_kept end.StringLimit wanted kept messages = record { entries = []; preamble = []; messages = messages; ending = end.StringLimit }
