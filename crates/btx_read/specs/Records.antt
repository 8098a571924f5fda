-- What a database says, as records: one for each event of it, where no entry is stored. So no document is asked what it cites, each entry is read, and
-- none is a repeated one.
use Rattle.std.specs.Prelude.{ℕ, nat_lt, ◌-◌, suc, Bool, false, List, [], ◌∷◌, length, drop, Option, None, Some, if◌then◌else◌, unwrap_or}
use Rattle.btx_text.specs.language.Limits.{greatest_string}
use Rattle.btx_bib.specs.declared.grammar.byte_sets.ByteSet.TheVariants.{Gap}
use Rattle.btx_bib.specs.declared.grammar.commands.Expected.TheVariants.{Item}
use Rattle.btx_bib.specs.declared.grammar.value_ends.Ends.TheVariants.{Kept, Trimmed}
use Rattle.btx_bib.specs.language.Grammar.ByteSets.{past}
use Rattle.btx_bib.specs.language.Grammar.Items as event
use Rattle.btx_bib.specs.language.Grammar.Items.{Event, Placed, StoredKeys, behind_at, events_from}
use Rattle.btx_bib.specs.language.Grammar.PlaceLines.{lines_begun}
use Rattle.btx_bib.specs.language.Grammar.ValueTexts.{value_text}
use Rattle.btx_bib.specs.language.Strings.{string_value, other_value, defined}
use Rattle.btx_read.specs.declared.content.Content.{Content}
use Rattle.btx_read.specs.declared.content.Content.TheVariants.{Comment, Preamble, Definition, Entry, Field, End, Wrong}
use Rattle.btx_read.specs.declared.record.Record.{Record}

-- ---- what a record says

-- a text, if it isn't longer than a string may be
abbrev pub fitting : List ℕ → Option (List ℕ)
fitting text = if nat_lt greatest_string (length text) then None else Some text

-- what a record says of an event, where these strings are known: a value is its text after strings and `#`, its whitespace squeezed. In its own
-- definition a string has no value, and a field's text loses its first and its last space
abbrev pub content_of : List (List ℕ × List ℕ) → Event → Content
content_of strings event.Comment = Comment
content_of strings (event.Preamble value) = Preamble (fitting (value_text Kept (string_value strings) value))
content_of strings (event.Definition name value) = Definition name (fitting (value_text Kept (other_value strings name) value))
content_of strings (event.Entry kind key) = Entry kind key
content_of strings (event.FieldOf field) = Field field.name (fitting (value_text Trimmed (string_value strings) field.value))
content_of strings event.ItemEnd = End
content_of strings (event.Wrong slip) = Wrong slip

-- the strings that are known after a name was given a text: where the text is too long the name has the value that it had
abbrev pub with_string : List (List ℕ × List ℕ) → List ℕ → List ℕ → List (List ℕ × List ℕ)
with_string strings name text = if nat_lt greatest_string (length text) then strings else defined strings name text

-- the strings that are known after an event: only a `@string` gives a name a text
abbrev pub strings_after : List (List ℕ × List ℕ) → Event → List (List ℕ × List ℕ)
strings_after strings (event.Definition name value) = with_string strings name (value_text Kept (other_value strings name) value)
strings_after strings _ = strings

-- ---- where a record is

-- how many bytes are left from the `@` on that an item begins with
abbrev pub left_at_item : List ℕ → ℕ
left_at_item before = suc (length (unwrap_or (behind_at before) []))

-- how many bytes are left from a field's name on: whitespace, a comma and whitespace are before it
abbrev pub left_at_field : List ℕ → ℕ
left_at_field before = length (past Gap (drop 1 (past Gap before)))

-- how many bytes are left from the first byte of an event on, where `before` is the text after the event before it, and `left` how many bytes are left
-- after it. The end of an item is its closing delimiter, and what is wrong has no bytes: it is met at its place
abbrev pub left_at : Event → List ℕ → ℕ → ℕ
left_at event.Comment before left = left_at_item before
left_at (event.Preamble value) before left = left_at_item before
left_at (event.Definition name value) before left = left_at_item before
left_at (event.Entry kind key) before left = left_at_item before
left_at (event.FieldOf field) before left = left_at_field before
left_at event.ItemEnd before left = suc left
left_at (event.Wrong slip) before left = left

-- ---- the records of a database

-- the record of `content` that begins where `left` bytes of `text` are left, and ends where `rest` begins
abbrev pub record_at : List ℕ → Content → ℕ → List ℕ → Record
record_at text content left rest =
    let start = length text - left in
    record { content = content; start = start; end = length text - length rest; line = lines_begun (suc start) text }

-- the record of an event of a text, where these strings are known, and `before` is the text after the event before it
abbrev pub record_of : List ℕ → List (List ℕ × List ℕ) → List ℕ → Placed → Record
record_of text strings before placed =
    record_at text (content_of strings placed.event) (left_at placed.event before (length placed.rest)) placed.rest

-- the records of events of a text, one after another, where these strings are known before the first, and `before` is the text after the event before it
abbrev pub records_along : List ℕ → List (List ℕ × List ℕ) → List ℕ → List Placed → List Record
records_along text strings before [] = []
records_along text strings before (placed ∷ others) =
    record_of text strings before placed ∷ records_along text (strings_after strings placed.event) placed.rest others

-- no entry has this key, whatever it is: none is stored
abbrev pub no_key : List ℕ → Bool
no_key key = false

-- nothing is kept of the events before, and no key is stored
abbrev pub nothing_kept : StoredKeys (Unit {0})
nothing_kept = record { is_stored = λ kept key. no_key key; after = λ kept event. kept }

-- the records of a database, before which these strings are known
unfoldable pub records_of : List (List ℕ × List ℕ) → List ℕ → List Record
records_of strings text = records_along text strings text (events_from nothing_kept tt Item text)
